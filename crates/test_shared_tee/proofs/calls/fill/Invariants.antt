-- The pass stays one of the runtime.
use Rattle.shared_tee.specs.Passes.{IsPassOf}
use Rattle.test_shared_tee.proofs.calls.fill.Given as goal

abbrev pub invariant-loop : goal.invariant-loop
invariant-loop g l = IsPassOf l.tee l.pass
