use Rattle.std.specs.Prelude.{IsTrue}
use Rattle.std.proofs.Common.{◌≡◌, ◌≤◌, ◌-◌, None, map, vec_len}
use Rattle.std.specs.List.{range_with_len}
use Rattle.region_plan.specs.Reading.{IsReadData, ReadsOnly, leaves_of}
use Rattle.region_plan.specs.Regions.{byte_at}
use Rattle.region_plan.specs.Tables.{IsInode}
use Rattle.region_plan.proofs.data.read_between.Given as goal
use Rattle.region_plan.specs.Layout.{layout}

-- the bytes before the place were read
abbrev pub invariant-loop-at : goal.invariant-loop-at
invariant-loop-at g l = record {
  reads : ReadsOnly g.L.LeafSource.keeper g.L.LeafSource.region None l.fn.from l.from;
  from_start : l.start ≤ l.at;
  to_end : l.at ≤ l.end;
  count : vec_len l.bytes ≡ l.at - l.start;
  bytes : IsTrue g.L.LeafSource.keeper.tells_reads → IsInode (layout l.form) (leaves_of g.L.LeafSource.keeper g.L.LeafSource.region l.fn.from) l.links l.inode l.length
      → l.bytes.items ≡ map (λ n. byte_at (layout l.form) (leaves_of g.L.LeafSource.keeper g.L.LeafSource.region l.fn.from) l.inode n) (range_with_len l.start (l.at - l.start));
  found : IsTrue g.L.LeafSource.keeper.tells_reads → IsInode (layout l.form) (leaves_of g.L.LeafSource.keeper g.L.LeafSource.region l.fn.from) l.links l.inode l.length
      → IsReadData g.L.LeafSource.keeper g.L.LeafSource.region (layout l.form) l.inode l.start l.at l.fn.from;
}

abbrev pub decreases-loop-at : goal.decreases-loop-at
decreases-loop-at g l = l.end - l.at
