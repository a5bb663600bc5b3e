use Rattle.std.proofs.Common.{◌≡◌, ◌≤◌, ◌<◌, ◌+◌, ℕ, true}
use Rattle.region_plan.specs.Chains.{is_first, last_below}
use Rattle.region_plan.specs.Layout.{layout}
use Rattle.region_plan.specs.Places.{entries_in, is_of}
use Rattle.region_plan.proofs.chain.are_first.Given as goal

-- the data leaves from the link on are those that the list leads to
abbrev pub invariant-loop-at : goal.invariant-loop-at
invariant-loop-at l = record {
  inside : l.at ≤ (layout l.fn.form).leaves;
  own : last_below (entries_in l.map) l.inode l.at ≡ l.at;
  first : (i : ℕ) → l.at ≤ i → i < (layout l.fn.form).leaves → is_of l.inode (entries_in l.map i) ≡ true → is_first l.firsts (entries_in l.map i) (i + 1) ≡ true;
}

abbrev pub decreases-loop-at : goal.decreases-loop-at
decreases-loop-at l = l.at
