use Rattle.std.proofs.Common.{rules}
use Rattle.transient_obj.proofs.transient.Transient.copy_from.Goals as goal

pub returns-clause-after : goal.returns-clause-after
returns-clause-after c = search rules
