use Rattle.std.proofs.Common.{rules}
use Rattle.instances.proofs.instances.Instances.is_left.Goals as goal

pub returns-after-self : goal.returns-after-self
returns-after-self c = search rules
