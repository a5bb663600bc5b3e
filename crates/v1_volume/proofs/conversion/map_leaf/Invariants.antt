use Rattle.std.proofs.Common.{◌≡◌, ◌<◌, ℕ, get_or, length}
use Rattle.v1_volume.specs.Checking.{leaf_in}
use Rattle.v1_volume.specs.Renumbering.{map_byte}
use Rattle.v1_volume.proofs.conversion.map_leaf.Given as goal

-- the bytes below this one are written
abbrev pub invariant-loop-k : goal.invariant-loop-k
invariant-loop-k l = record {
  long : length l.block ≡ 1024;
  written : (i : ℕ) → i < l.k → get_or l.block i 0 ≡ map_byte (leaf_in l.leaves) l.leaf i;
}
