-- Both passes stay those of the runtime.
use Rattle.shared_tee.specs.Passes.{IsPassOf}
use Rattle.test_shared_tee.proofs.shared.turn_for.Given as goal

abbrev pub invariant-loop : goal.invariant-loop
invariant-loop g l = IsPassOf l.tee l.first × IsPassOf l.tee l.second
