use Rattle.std.specs.Prelude.{IsTrue}
use Rattle.std.proofs.Common.{◌<◌, ℕ, None}
use Rattle.region_plan.specs.Layout.{layout}
use Rattle.region_plan.specs.Places.{entries_in}
use Rattle.region_plan.specs.Plans.{IsMapLeaf}
use Rattle.region_plan.specs.Reading.{IsUndamaged, ReadsOnly, leaves_of}
use Rattle.region_plan.proofs.table.read_map.Given as goal

-- the leaves of the map below this one were read
abbrev pub invariant-loop-leaf : goal.invariant-loop-leaf
invariant-loop-leaf g l = record {
  reads : ReadsOnly g.L.LeafSource.keeper g.L.LeafSource.region None l.fn.from l.from;
  done : IsTrue g.L.LeafSource.keeper.tells_reads → (i : ℕ) → i < l.leaf
      → IsMapLeaf (layout l.form) l.map i (leaves_of g.L.LeafSource.keeper g.L.LeafSource.region l.fn.from i);
  inodes : (i : ℕ) → (entries_in l.map i).inode < (layout l.form).leaves;
  undamaged : IsTrue g.L.LeafSource.keeper.tells_reads → (i : ℕ) → i < l.leaf → IsUndamaged g.L.LeafSource.keeper g.L.LeafSource.region l.fn.from i;
}
