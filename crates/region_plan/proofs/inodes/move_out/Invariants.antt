use Rattle.std.proofs.Common.{◌≡◌, ◌≤◌, ◌<◌, ℕ, length}
use Rattle.region_plan.specs.Orders.{place_at, place_out}
use Rattle.region_plan.proofs.inodes.move_out.Given as goal

-- the places before this one are moved
abbrev pub invariant-loop-n : goal.invariant-loop-n
invariant-loop-n l = record {
  long : length l.order.items ≡ length l.initial.order.items;
  done : (k : ℕ) → k < l.n → place_at l.order.items k ≡ place_out l.from l.last (place_at l.initial.order.items k);
  rest : (k : ℕ) → l.n ≤ k → place_at l.order.items k ≡ place_at l.initial.order.items k;
}
