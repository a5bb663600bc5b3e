use Rattle.std.proofs.Common.{rules}
use Rattle.instances.proofs.instances.Instances.admit.Goals as goal

pub returns-then-not-self : goal.returns-then-not-self
returns-then-not-self c = search rules

pub returns : goal.returns
returns c = search rules
