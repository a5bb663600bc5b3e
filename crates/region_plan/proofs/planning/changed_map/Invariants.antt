use Rattle.std.proofs.Common.{◌≡◌, ◌≤◌, ◌<◌, ℕ, List, true, length}
use Rattle.store_api.specs.Ascending.{is_above_all}
use Rattle.region_plan.specs.Layout.{layout}
use Rattle.region_plan.specs.Places.{IsMapOf}
use Rattle.region_plan.specs.Plans.{ChangeMap, IsMapLeaf, with_leaves}
use Rattle.region_plan.proofs.planning.changed_map.Given as goal
use Rattle.region_plan.specs.declared.form.Form.TheVariants.{Two}

-- the leaves of the map below this one are named where they change
abbrev pub invariant-loop-leaf : goal.invariant-loop-leaf
invariant-loop-leaf l = record {
  above : is_above_all l.leaves l.leaf ≡ true;
  done : (leaves : ℕ → List ℕ) → IsMapOf (layout Two) leaves l.old → (i : ℕ) → i < l.leaf → IsMapLeaf (layout Two) l.map i (with_leaves l.leaves leaves i);
  changed : (leaves : ℕ → List ℕ) → IsMapOf (layout Two) leaves l.old → ChangeMap (layout Two) leaves l.leaves;
  few : length l.leaves ≤ l.leaf;
}
