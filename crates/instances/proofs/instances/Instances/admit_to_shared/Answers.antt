use Rattle.std.proofs.Common.{rules}
use Rattle.instances.proofs.instances.Instances.admit_to_shared.Goals as goal

pub returns : goal.returns
returns c = search rules
