use Rattle.std.proofs.Common.{rules}
use Rattle.transient_obj.proofs.transient.Transient.restrict.Goals as goal

pub returns : goal.returns
returns c = search rules
