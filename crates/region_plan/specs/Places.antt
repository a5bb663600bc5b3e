-- Where the data of an object is placed.
use Rattle.std.specs.Prelude.{ℕ, ◌≡◌, ◌+◌, ◌<◌, ◌≤◌, ◌==◌, nat_lt, nat_le, Bool, ◌&&◌, List, slice_index_or, if◌then◌else◌}
use Rattle.std.specs.List.{range_with_len, count_by}
use Rattle.region_plan.specs.Layout.{Layout}
use Rattle.region_plan.specs.Entries.{entry_at}
use Rattle.region_plan.specs.declared.entry.Entry.{Entry}
use Rattle.region_plan.specs.declared.entry.TheConstants.{FREE, DATA}
use Rattle.tee_base.specs.Words.{RegionLeaves}

-- the entry of a free leaf
abbrev pub free_entry : Entry
free_entry = record { kind = FREE; inode = 0; index = 0 }

-- the entries of a map
unfoldable pub entries_in : List Entry → ℕ → Entry
entries_in map i = slice_index_or map i free_entry

-- with one entry replaced
abbrev pub with_entry : ℕ → Entry → (ℕ → Entry) → ℕ → Entry
with_entry leaf entry entries i = if i == leaf then entry else entries i

-- the entry of an inode's data at an index
abbrev pub data_at : ℕ → ℕ → Entry
data_at inode index = record { kind = DATA; inode = inode; index = index }

-- an entry is of data of an inode
abbrev pub is_of : ℕ → Entry → Bool
is_of inode e = (e.kind == DATA) && (e.inode == inode)

-- an entry after an inode's data got so many leaves, where a free leaf is to have this index
abbrev pub placed_entry : Bool → Entry → ℕ → ℕ → ℕ → Entry
placed_entry free e inode index blocks =
    if free && nat_lt index blocks then data_at inode index else
    if is_of inode e && nat_le blocks e.index then free_entry else e

module _ (L : Layout) where
  -- a map is that of a region's leaves
  abbrev pub IsMapOf : RegionLeaves → List Entry → Type 0
  IsMapOf leaves map = (i : ℕ) → i < L.leaves → entries_in map i ≡ entry_at L leaves i

  -- an entry that may be written
  pub record IsWritable (e : Entry) : Type 0 where
    pub kind : e.kind ≤ DATA
    pub inode : e.inode < L.leaves
    pub index : e.index < L.indexes

  -- each entry of a map may
  abbrev pub AreWritable : List Entry → Type 0
  AreWritable map = (i : ℕ) → i < L.leaves → IsWritable (entries_in map i)

  -- a leaf may be taken: it is free, and not of the map
  abbrev pub is_free : (ℕ → Entry) → ℕ → Bool
  is_free entries i = nat_le L.map_leaves i && ((entries i).kind == FREE)

  -- how many leaves before this one may be taken
  unfoldable pub free_before : (ℕ → Entry) → ℕ → ℕ
  free_before entries i = count_by (λ j. is_free entries j) (range_with_len 0 i)

  -- the entries after an inode's data got so many leaves, of which it had the first ones: it gives up leaves past the last one, and
  -- takes free ones in ascending order for what it lacks
  abbrev pub place_leaves : (ℕ → Entry) → ℕ → ℕ → ℕ → ℕ → Entry
  place_leaves entries inode kept blocks i = placed_entry (is_free entries i) (entries i) inode (kept + free_before entries i) blocks

  -- a map has the entries after an inode's data got so many leaves
  abbrev pub IsPlaced : (ℕ → Entry) → List Entry → ℕ → ℕ → ℕ → Type 0
  IsPlaced entries after inode kept blocks = (i : ℕ) → i < L.leaves → entries_in after i ≡ place_leaves entries inode kept blocks i
