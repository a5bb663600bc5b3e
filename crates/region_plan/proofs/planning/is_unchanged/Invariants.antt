use Rattle.std.proofs.Common.{◌≡◌, ◌<◌, ◌+◌, ◌*◌, ℕ}
use Rattle.region_plan.specs.Places.{entries_in}
use Rattle.region_plan.proofs.planning.is_unchanged.Given as goal

-- the entries before this one are the same
abbrev pub invariant-loop-place : goal.invariant-loop-place
invariant-loop-place l = (k : ℕ) → k < l.place → entries_in l.map (256 * l.leaf + k) ≡ entries_in l.old (256 * l.leaf + k)
