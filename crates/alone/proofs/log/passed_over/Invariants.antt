use Rattle.std.proofs.Common.{◌≤◌, length}
use Rattle.alone.proofs.log.passed_over.Given as goal

abbrev pub invariant-loop-place : goal.invariant-loop-place
invariant-loop-place l = l.place ≤ length l.highs

abbrev pub decreases-loop-place : goal.decreases-loop-place
decreases-loop-place l = l.place
