use Rattle.std.specs.Prelude.{IsTrue}
use Rattle.std.proofs.Common.{◌≡◌, ◌≤◌, ◌<◌, ℕ, true, None, is_some, length}
use Rattle.store_api.specs.Ascending.{is_above_all}
use Rattle.region_plan.specs.Layout.{layout}
use Rattle.region_plan.specs.Places.{IsMapOf}
use Rattle.region_plan.specs.Plans.{ChangeMap, IsChangedLeaf, is_named, leaves_to_change, with_leaves}
use Rattle.region_plan.specs.Reading.{ReadsOnly, leaves_of}
use Rattle.region_plan.proofs.planning.changed_leaves.Given as goal
use Rattle.region_plan.specs.declared.form.Form.TheVariants.{Two}

-- the leaves below this one are named where they change
abbrev pub invariant-loop-leaf : goal.invariant-loop-leaf
invariant-loop-leaf g l = record {
  reads : ReadsOnly g.L.LeafSource.keeper g.L.LeafSource.region None l.fn.from l.from;
  above : is_above_all l.leaves l.leaf ≡ true;
  later : (layout Two).map_leaves ≤ l.leaf;
  most : l.leaf ≤ (layout Two).leaves;
  done : IsTrue g.L.LeafSource.keeper.tells_reads → IsMapOf (layout Two) (leaves_of g.L.LeafSource.keeper g.L.LeafSource.region l.fn.from) l.old → (i : ℕ) → i < l.leaf
      → IsChangedLeaf (layout Two) (leaves_of g.L.LeafSource.keeper g.L.LeafSource.region l.fn.from) l.map l.inode l.head l.edit i
      (with_leaves l.leaves (leaves_of g.L.LeafSource.keeper g.L.LeafSource.region l.fn.from) i);
  changed : IsTrue g.L.LeafSource.keeper.tells_reads → IsMapOf (layout Two) (leaves_of g.L.LeafSource.keeper g.L.LeafSource.region l.fn.from) l.old
      → ChangeMap (layout Two) (leaves_of g.L.LeafSource.keeper g.L.LeafSource.region l.fn.from) l.leaves;
  own : is_some l.head ≡ true → (layout Two).map_leaves ≤ l.inode → l.inode < l.leaf → is_named l.leaves l.inode ≡ true;
  few : length l.leaves ≤ leaves_to_change (layout Two) l.map l.inode l.edit l.leaf;
}
