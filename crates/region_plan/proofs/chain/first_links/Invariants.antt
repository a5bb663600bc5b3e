use Rattle.std.proofs.Common.{◌≡◌, ◌≤◌, ◌<◌, ℕ, length}
use Rattle.region_plan.specs.Chains.{last_below, leaf_from, link_to, links_in}
use Rattle.region_plan.specs.Layout.{layout}
use Rattle.region_plan.specs.Places.{entries_in}
use Rattle.region_plan.proofs.chain.first_links.Given as goal

-- the first leaf at each index from the link on
abbrev pub invariant-loop-at : goal.invariant-loop-at
invariant-loop-at l = record {
  inside : l.at ≤ (layout l.fn.form).leaves;
  own : last_below (entries_in l.map) l.inode l.at ≡ l.at;
  first : (index : ℕ) → index < l.fn.count → links_in l.firsts.items index ≡ link_to (leaf_from (entries_in l.map) (layout l.fn.form).leaves l.inode index l.at);
  long : length l.firsts.items ≡ l.fn.count;
}

abbrev pub decreases-loop-at : goal.decreases-loop-at
decreases-loop-at l = l.at
