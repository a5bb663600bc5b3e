use Rattle.std.proofs.Common.{ℕ, ◌≡◌, ◌≤◌, ◌*◌, drop, length, vec_capacity}
use Rattle.race.proofs.DealLemmas.{AreFirstDealt}
use Rattle.race.proofs.dealing.deal.Given as goal

-- the first passes are dealt
abbrev pub invariant-loop-passes : goal.invariant-loop-passes
invariant-loop-passes g l = (count : ℕ) × (dealt : ℕ) × record {
  size : length l.fn.passes.items ≡ 8 * count;
  few : dealt ≤ length l.fn.passes.items;
  rest : l.passes.items ≡ drop dealt l.fn.passes.items;
  first : AreFirstDealt count l.fn.passes.items dealt l.workers.items;
  capacity : vec_capacity l.passes ≡ vec_capacity l.fn.passes;
}

abbrev pub decreases-loop-passes : goal.decreases-loop-passes
decreases-loop-passes g l = goal.left-loop-passes g l
