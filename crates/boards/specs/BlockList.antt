-- A list of blocks with the place of each.
use Rattle.std.specs.Prelude.{◌≡◌, ◌<◌, ◌≤◌, ◌++◌, ℕ, [], ◌∷◌, slice_index_or, vec_len, vec_capacity}
use Rattle.boards.specs.declared.block_list.BlockList.{BlockList}

-- the place of each listed block is noted, so that none is listed twice, and there is room for every block
pub record IsBlockList (l : BlockList) : Type 0 where
  pub reached : (i : ℕ) → i < vec_len l.blocks → slice_index_or l.blocks.items i 0 < vec_len l.places
  pub noted : (i : ℕ) → i < vec_len l.blocks → slice_index_or l.places.items (slice_index_or l.blocks.items i 0) 0 ≡ i
  pub within : vec_len l.places ≤ l.count
  pub room : l.count ≤ vec_capacity l.blocks
  pub places_room : l.count ≤ vec_capacity l.places

-- the block is listed behind the others
pub record HasListed (block : ℕ) (old new : BlockList) : Type 0 where
  pub list : IsBlockList new
  pub blocks : new.blocks.items ≡ old.blocks.items ++ block ∷ []
  pub count : new.count ≡ old.count
  -- each list of blocks is shorter than the number of all, where one isn't listed
  pub fits : vec_len old.blocks < old.count
