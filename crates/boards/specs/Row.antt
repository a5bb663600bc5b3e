-- A row of blocks: the bytes of those that were written, and zeros in all others.
use Rattle.std.specs.Prelude.{◌≡◌, ◌≢◌, ◌≤◌, ℕ, List, length, replicate, slice_index_or, vec_len, vec_capacity}
use Rattle.tee_base.specs.declared.limits.TheConstants.{BLOCK_BYTES}
use Rattle.boards.specs.BlockList.{IsBlockList}
use Rattle.boards.specs.Places.{place_in}
use Rattle.boards.specs.declared.row.Row.{Row}

-- the bytes of a block
abbrev pub block_of : Row → ℕ → List ℕ
block_of r k = slice_index_or r.blocks.items (place_in r.written.blocks.items k) (replicate BLOCK_BYTES 0)

-- each written block has its bytes, 1,024 of them, and there is room for every block
pub record IsRow (r : Row) : Type 0 where
  pub written : IsBlockList r.written
  pub count : vec_len r.blocks ≡ vec_len r.written.blocks
  pub room : r.written.count ≤ vec_capacity r.blocks
  pub whole : (k : ℕ) → length (block_of r k) ≡ BLOCK_BYTES

-- one block has these bytes, and the others are as they were
pub record Sets (at : ℕ) (bytes : List ℕ) (old new : Row) : Type 0 where
  pub row : IsRow new
  pub count : new.written.count ≡ old.written.count
  pub here : block_of new at ≡ bytes
  pub elsewhere : (k : ℕ) → k ≢ at → block_of new k ≡ block_of old k
