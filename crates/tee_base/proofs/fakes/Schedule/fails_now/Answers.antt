use Rattle.std.proofs.Common.{rules}
use Rattle.tee_base.proofs.fakes.Schedule.fails_now.Goals as goal

pub returns-then-fails-clause-after : goal.returns-then-fails-clause-after
returns-then-fails-clause-after c = search rules
