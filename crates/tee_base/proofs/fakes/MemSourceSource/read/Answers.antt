use Rattle.std.proofs.Common.{rules}
use Rattle.tee_base.proofs.fakes.MemSourceSource.read.Goals as goal

pub returns-clause-plan : goal.returns-clause-plan
returns-clause-plan c = search rules

pub returns-then-fails_now-clause-last : goal.returns-then-fails_now-clause-last
returns-then-fails_now-clause-last c = c.fails_now.ensures.last c.if-fails_now.true

pub returns-then-fails_now-clause-plan : goal.returns-then-fails_now-clause-plan
returns-then-fails_now-clause-plan c = search rules
