-- The pass stays one of the runtime.
use Rattle.shared_tee.specs.Passes.{IsPassOf}
use Rattle.test_shared_tee.proofs.folded.work.Given as goal

abbrev pub invariant-loop-number : goal.invariant-loop-number
invariant-loop-number g l = IsPassOf l.tee l.pass
