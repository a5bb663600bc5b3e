-- The pending blocks: what each holds on the disk, and what was offered to it.
use Rattle.std.specs.Prelude.{◌≡◌, ◌≢◌, ◌<◌, ◌≤◌, ℕ, Bool, true, false, List, [], slice_index_or, vec_len, vec_capacity}
use Rattle.boards.specs.BlockList.{IsBlockList}
use Rattle.boards.specs.Places.{is_listed, place_in}
use Rattle.boards.specs.declared.pending.Pending.{Pending}

-- the block is pending
abbrev pub is_pending : Pending → ℕ → Bool
is_pending p k = is_listed p.listed.blocks.items k

-- what a block holds on the disk: these bytes, where it isn't pending
abbrev pub durable_or : Pending → ℕ → List ℕ → List ℕ
durable_or p k bytes = slice_index_or p.durable.items (place_in p.listed.blocks.items k) bytes

-- what was offered last to a pending block
abbrev pub offered_in : Pending → ℕ → List ℕ
offered_in p k = slice_index_or p.offered.items (place_in p.listed.blocks.items k) []

-- each pending block has its bytes, and there is room for every block
pub record IsPending (p : Pending) : Type 0 where
  pub listed : IsBlockList p.listed
  pub durable : vec_len p.durable ≡ vec_len p.listed.blocks
  pub offered : vec_len p.offered ≡ vec_len p.listed.blocks
  pub durable_room : p.listed.count ≤ vec_capacity p.durable
  pub offered_room : p.listed.count ≤ vec_capacity p.offered
  pub settled : (k : ℕ) → is_pending p k ≡ false → (bytes : List ℕ) → durable_or p k bytes ≡ bytes
  pub within : (k : ℕ) → is_pending p k ≡ true → k < p.listed.count

-- the block is pending with these bytes, and the others are as they were
pub record HasOffered (block : ℕ) (durable offered : List ℕ) (old new : Pending) : Type 0 where
  pub pending : IsPending new
  pub count : new.listed.count ≡ old.listed.count
  pub here : is_pending new block ≡ true
  pub elsewhere : (k : ℕ) → k ≢ block → is_pending new k ≡ is_pending old k
  -- one that wasn't pending keeps what it holds
  pub kept : (k : ℕ) (holds : ℕ → List ℕ) → holds block ≡ durable → durable_or new k (holds k) ≡ durable_or old k (holds k)
  pub offers : offered_in new block ≡ offered
  pub offers_elsewhere : (k : ℕ) → k ≢ block → offered_in new k ≡ offered_in old k
