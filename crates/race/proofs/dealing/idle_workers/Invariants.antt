use Rattle.race.proofs.DealLemmas.{AreIdleTo}
use Rattle.race.proofs.dealing.idle_workers.Given as goal

-- the first workers are made
abbrev pub invariant-loop-client : goal.invariant-loop-client
invariant-loop-client g l = AreIdleTo l.apps l.client l.workers.items
