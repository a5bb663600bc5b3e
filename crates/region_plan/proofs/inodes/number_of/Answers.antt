use Rattle.std.proofs.Common.{arith}
use Rattle.region_plan.proofs.inodes.number_of.Goals as goal

pub returns : goal.returns
returns c = absurd (c.loop-n.invariant c.requires.0 (let inside = c.requires.1 in omega (arith, inside, c.loop-n-test.false)) c.requires.2)
