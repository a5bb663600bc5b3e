use Rattle.std.proofs.Common.{◌≡◌, ◌≤◌, None, length}
use Rattle.std.specs.List.{All}
use Rattle.std.specs.Prelude.{IsTrue}
use Rattle.region_plan.specs.Reading.{AreWhole, ReadsOnly, leaves_of}
use Rattle.region_plan.specs.Tables.{IsWithin, inodes_below}
use Rattle.region_plan.proofs.table.read_inodes.Given as goal
use Rattle.region_plan.specs.Layout.{layout}
use Rattle.region_plan.specs.Places.{IsMapOf}

-- the inodes below the leaf were read
abbrev pub invariant-loop-leaf : goal.invariant-loop-leaf
invariant-loop-leaf g l = record {
  reads : ReadsOnly g.L.LeafSource.keeper g.L.LeafSource.region None l.fn.from l.from;
  inodes : IsTrue g.L.LeafSource.keeper.tells_reads → IsMapOf (layout l.form) (leaves_of g.L.LeafSource.keeper g.L.LeafSource.region l.fn.from) l.map
      → l.inodes ≡ inodes_below (layout l.form) (leaves_of g.L.LeafSource.keeper g.L.LeafSource.region l.fn.from) l.leaf;
  few : length l.inodes ≤ l.leaf;
  within : All (IsWithin (layout l.form)) l.inodes;
  sound : IsTrue g.L.LeafSource.keeper.tells_reads → IsMapOf (layout l.form) (leaves_of g.L.LeafSource.keeper g.L.LeafSource.region l.fn.from) l.map
      → AreWhole g.L.LeafSource.keeper g.L.LeafSource.region (layout l.form) l.fn.from l.leaf;
}
