use Rattle.std.proofs.Common.{◌≡◌, ◌<◌, ℕ, None, length}
use Rattle.std.specs.Prelude.{IsTrue}
use Rattle.region_plan.specs.Reading.{IsUndamaged, ReadsOnly, leaves_of}
use Rattle.v1_volume.specs.Checking.{leaf_in}
use Rattle.v1_volume.proofs.old.read_leaves.Given as goal

-- the leaves below this one were read
abbrev pub invariant-loop-number : goal.invariant-loop-number
invariant-loop-number g l = record {
  reads : ReadsOnly g.L.LeafSource.keeper g.L.LeafSource.region None l.fn.from l.from;
  long : length l.leaves.items ≡ l.number;
  found : IsTrue g.L.LeafSource.keeper.tells_reads → (i : ℕ) → i < l.number
      → leaf_in l.leaves.items i ≡ leaves_of g.L.LeafSource.keeper g.L.LeafSource.region l.fn.from i;
  undamaged : IsTrue g.L.LeafSource.keeper.tells_reads → (i : ℕ) → i < l.number → IsUndamaged g.L.LeafSource.keeper g.L.LeafSource.region l.fn.from i;
}
