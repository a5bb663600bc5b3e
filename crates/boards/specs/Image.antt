-- An image as bytes: its blocks one after another.
use Rattle.std.specs.Prelude.{◌≡◌, ◌<◌, ℕ, ◌*◌, List, [], length, take, drop, slice_index_or}
use Rattle.tee_base.specs.declared.limits.TheConstants.{BLOCK_BYTES}

-- the block with this number
abbrev pub block_at : List ℕ → ℕ → List ℕ
block_at bytes k = take BLOCK_BYTES (drop (BLOCK_BYTES * k) bytes)

-- each of them has 1,024 bytes
abbrev pub AreBlocks : List (List ℕ) → Type 0
AreBlocks blocks = (k : ℕ) → k < length blocks → length (slice_index_or blocks k []) ≡ BLOCK_BYTES
