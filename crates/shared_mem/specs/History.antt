-- A block by all that happened to the blocks of one application.
use Rattle.std.specs.Prelude.{ℕ, ◌==◌, ◌&&◌, Bool, if◌then◌else◌, List, [], ◌∷◌, Option, None, Some, option_map, unwrap_or}
use Rattle.shared_mem.specs.Blocks.{new_block, with_block, with_bytes, without_block, block_after_write}
use Rattle.shared_mem.specs.declared.block.Block.{Block}
use Rattle.app_api.specs.declared.reference.Direction.{Direction}

-- what changes blocks: a client shares one, bytes are filled into one or delivered to it, a client gives one up
pub data Happening : Type 0 where
  Shared : ℕ → ℕ → Direction → ℕ → Happening
  Written : ℕ → ℕ → ℕ → List ℕ → Happening
  GivenUp : ℕ → ℕ → Happening

-- the blocks behind one more happening
abbrev pub behind : List Block → Happening → List Block
behind blocks (Shared client number direction size) = with_block blocks client number direction size
behind blocks (Written client number at bytes) = with_bytes blocks client number at bytes
behind blocks (GivenUp client number) = without_block blocks client number

-- the blocks behind all of these, the last of them first
abbrev pub blocks_after : List Happening → List Block
blocks_after [] = []
blocks_after (last ∷ before) = behind (blocks_after before) last

-- both are one client's, under one number
abbrev pub is_same : ℕ → ℕ → ℕ → ℕ → Bool
is_same client number other its = (client == other) && (number == its)

-- one client's block of one number, by what happened to it alone: zeros, and what was written over them since
abbrev pub block_by : ℕ → ℕ → List Happening → Option Block
block_by client number [] = None
block_by client number (Shared other its direction size ∷ before) =
    if is_same other its client number then Some (unwrap_or (block_by client number before) (new_block other its direction size))
    else block_by client number before
block_by client number (Written other its at bytes ∷ before) =
    if is_same other its client number then option_map (block_after_write at bytes) (block_by client number before)
    else block_by client number before
block_by client number (GivenUp other its ∷ before) =
    if is_same other its client number then None
    else block_by client number before
