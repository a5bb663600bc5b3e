use Rattle.race.specs.Outcomes.{IsOutcome}
use Rattle.race.proofs.workers.outcome.Given as goal

-- how a race of the first workers ends
abbrev pub invariant-loop-worker : goal.invariant-loop-worker
invariant-loop-worker g l = IsOutcome l.worker-index l.workers l.ended
