use Rattle.std.proofs.Common.{◌≢◌, ◌<◌, ℕ}
use Rattle.region_plan.specs.Orders.{place_at}
use Rattle.region_plan.proofs.inodes.number_of.Given as goal

-- no number before this one is that of the place
abbrev pub invariant-loop-n : goal.invariant-loop-n
invariant-loop-n l = (k : ℕ) → k < l.n → place_at l.order k ≢ l.place
