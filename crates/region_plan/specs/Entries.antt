-- The map of a region: an entry for each leaf, with its kind, the leaf of its inode, and its index among the inode's data.
use Rattle.std.specs.Prelude.{ℕ, ◌*◌, ◌/◌, ◌%◌, ◌==◌, nat_lt, Bool, ◌&&◌, ◌||◌, List, if◌then◌else◌}
use Rattle.std.specs.Int.{w32, from_le_bytes}
use Rattle.region_plan.specs.Layout.{Layout}
use Rattle.region_plan.specs.Parts.{part}
use Rattle.region_plan.specs.declared.entry.Entry.{Entry}
use Rattle.region_plan.specs.declared.entry.TheConstants.{FREE, INODE, DATA, MAP_ENTRIES, ENTRY_BYTES}
use Rattle.tee_base.specs.Words.{RegionLeaves}

-- an entry has one of three kinds: zeros behind a free leaf; itself and index 0 for an inode; data is named, where it
-- names an inode, at an index that there may be
abbrev pub form_of : ℕ → Entry → Bool → Bool
form_of i e named =
    if e.kind == FREE then (e.inode == 0) && (e.index == 0) else
    if e.kind == INODE then (e.inode == i) && (e.index == 0) else
    (e.kind == DATA) && named

-- the entry of a place of a map leaf as a little-endian number
abbrev pub number_in : List ℕ → ℕ → ℕ
number_in bytes place = from_le_bytes w32 (part (ENTRY_BYTES * place) ENTRY_BYTES bytes)

-- an entry of zeros
abbrev pub is_zero : Entry → Bool
is_zero e = (e.kind == FREE) && ((e.inode == 0) && (e.index == 0))

-- whether the entry of a leaf follows the rules, where these are the entries of the map: those of the map itself are zero
abbrev pub follows : Layout → (ℕ → Entry) → ℕ → Bool
follows L entries i =
    if nat_lt i L.map_leaves then is_zero (entries i) else
    form_of i (entries i) (((entries (entries i).inode).kind == INODE) && nat_lt (entries i).index L.indexes)

module _ (L : Layout) (leaves : RegionLeaves) where
  -- the entry of a leaf as a number
  abbrev pub entry_number : ℕ → ℕ
  entry_number i = number_in (leaves (i / MAP_ENTRIES)) (i % MAP_ENTRIES)

  -- the entry of a leaf
  unfoldable pub entry_at : ℕ → Entry
  entry_at i = L.entry_of (entry_number i)

  -- the leaf is an inode
  abbrev pub is_inode : ℕ → Bool
  is_inode i = (entry_at i).kind == INODE

  -- the leaf is data of an inode
  abbrev pub is_data_of : ℕ → ℕ → Bool
  is_data_of inode i = ((entry_at i).kind == DATA) && ((entry_at i).inode == inode)

  -- the leaf is the data of an inode at an index
  abbrev pub is_data_at : ℕ → ℕ → ℕ → Bool
  is_data_at inode index i = is_data_of inode i && ((entry_at i).index == index)

  -- the leaf is in use
  abbrev pub is_used : ℕ → Bool
  is_used i = is_inode i || ((entry_at i).kind == DATA)

  -- the entry of a leaf follows the rules
  unfoldable pub is_well_formed : ℕ → Bool
  is_well_formed i = follows L (λ j. entry_at j) i
