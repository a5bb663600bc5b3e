-- Leaves of a region after a change.
use Rattle.std.specs.Prelude.{ℕ, ◌≡◌, ◌≢◌, ◌+◌, ◌*◌, ◌<◌, ◌≤◌, ◌⊎◌, ◌==◌, nat_lt, min, Bool, true, false, not, ◌&&◌, ◌||◌, List, Option, None, Some, is_some, length}
use Rattle.std.specs.List.{All, list_any, range_with_len, count_by}
use Rattle.store_api.specs.declared.answer.StoreAnswer.{StoreAnswer}
use Rattle.store_api.specs.declared.answer.StoreAnswer.TheVariants.{NotFound, Exists, Lost, Failed, Corrupt, Garbled}
use Rattle.store_api.specs.declared.leaves.Leaf.{Leaf}
use Rattle.store_api.specs.Volumes.{leaf_after}
use Rattle.region_plan.specs.Edits.{IsEditedLeaf, is_left}
use Rattle.region_plan.specs.Entries.{is_inode, number_in}
use Rattle.region_plan.specs.Inodes.{inode_of, is_inode_leaf, IsHead}
use Rattle.region_plan.specs.Layout.{Layout, quota_of}
use Rattle.region_plan.specs.Places.{entries_in, is_free, is_of, free_before, place_leaves, with_entry}
use Rattle.region_plan.specs.Regions.{data_leaves}
use Rattle.region_plan.specs.declared.edit.Edit.{Edit}
use Rattle.region_plan.specs.declared.entry.Entry.{Entry}
use Rattle.region_plan.specs.declared.entry.TheConstants.{INODE, MAP_ENTRIES}
use Rattle.region_plan.specs.declared.inode.Head.{Head}
use Rattle.region_plan.specs.declared.inode.Inode.{Inode}
use Rattle.tee_base.specs.Words.{RegionLeaves}

-- the new bytes of a leaf, if there are some, else those that it had
abbrev pub bytes_or : Option (List ℕ) → List ℕ → List ℕ
bytes_or None old = old
bytes_or (Some new) old = new

-- the leaves of a region after these were written
abbrev pub with_leaves : List Leaf → RegionLeaves → ℕ → List ℕ
with_leaves named leaves number = leaf_after named number (leaves number)

-- how many data leaves an inode keeps where its content gets another length
abbrev pub kept_leaves : ℕ → Edit → ℕ
kept_leaves had edit = min (data_leaves had) (data_leaves edit.length)

-- a plan is refused for want of space, or kept from its answer
abbrev pub IsUnreadOrFull : Option StoreAnswer → Type 0
IsUnreadOrFull (Some NotFound) = ⊥
IsUnreadOrFull (Some Exists) = ⊥
IsUnreadOrFull _ = Unit {0}

-- an answer that is given without a read: done, or refused for what the store is or for want of memory
abbrev pub IsDecided : Option StoreAnswer → Type 0
IsDecided (Some Lost) = ⊥
IsDecided (Some Failed) = ⊥
IsDecided (Some (Corrupt tags)) = ⊥
IsDecided (Some (Garbled leaf)) = ⊥
IsDecided _ = Unit {0}

-- a leaf is among those that are named
abbrev pub is_named : List Leaf → ℕ → Bool
is_named named number = list_any (λ leaf. leaf.number == number) named

-- two entries are the same
abbrev pub same_entry : Entry → Entry → Bool
same_entry e f = (e.kind == f.kind) && ((e.inode == f.inode) && (e.index == f.index))

module _ (L : Layout) where
  -- a leaf, if it is one of the map, changes
  abbrev pub ChangesMap : RegionLeaves → Leaf → Type 0
  ChangesMap leaves leaf = leaf.number < L.map_leaves → leaf.bytes ≢ leaves leaf.number

  -- leaves of the map are named only where they change
  abbrev pub ChangeMap : RegionLeaves → List Leaf → Type 0
  ChangeMap leaves named = All (λ leaf. ChangesMap leaves leaf) named

  -- each inode after leaves were written is among them, or was one before
  abbrev pub NamesInodes : RegionLeaves → List Leaf → Type 0
  NamesInodes leaves named = (i : ℕ) → i < L.leaves → is_inode L (with_leaves named leaves) i ≡ true → is_named named i ≡ false → is_inode L leaves i ≡ true

  -- the bytes of a map leaf have the entries of a map
  abbrev pub IsMapLeaf : List Entry → ℕ → List ℕ → Type 0
  IsMapLeaf map leaf bytes = (place : ℕ) → place < MAP_ENTRIES → L.entry_of (number_in bytes place) ≡ entries_in map (MAP_ENTRIES * leaf + place)

  -- a leaf after a change of an inode's object, where this is the map then: one of the map, the inode, its data, or another one
  pub record IsChangedLeaf (leaves : RegionLeaves) (map : List Entry) (inode : ℕ) (head : Option (List ℕ)) (edit : Edit) (i : ℕ) (new : List ℕ) : Type 0 where
    pub first : i < L.map_leaves → IsMapLeaf map i new
    pub own : L.map_leaves ≤ i → i ≡ inode → new ≡ bytes_or head (leaves i)
    pub data' : L.map_leaves ≤ i → i ≢ inode → is_of inode (entries_in map i) ≡ true → IsEditedLeaf edit (entries_in map i).index (leaves i) new
    pub other : L.map_leaves ≤ i → i ≢ inode → is_of inode (entries_in map i) ≡ false → new ≡ leaves i

  -- a region after the content of an inode's object was edited, which had so many bytes: the base is the map with the inode in it, and
  -- the map is that of the region then
  pub record IsEdited (leaves after : RegionLeaves) (base map : List Entry) (inode had : ℕ) (head : Option (List ℕ)) (edit : Edit) : Type 0 where
    pub map_is : (i : ℕ) → i < L.leaves → entries_in map i ≡ place_leaves L (entries_in base) inode (kept_leaves had edit) (data_leaves edit.length) i
    pub short : data_leaves edit.length ≤ L.indexes
    pub enough : data_leaves edit.length ≤ kept_leaves had edit + free_before L (entries_in base) L.leaves
    pub each : (i : ℕ) → i < L.leaves → IsChangedLeaf leaves map inode head edit i (after i)

  -- a leaf may be among those that change: one of the map, the inode, or data that doesn't stay as it is
  abbrev pub may_change : List Entry → ℕ → Edit → ℕ → Bool
  may_change map inode edit i =
      nat_lt i L.map_leaves || ((i == inode) || (is_of inode (entries_in map i) && not (is_left edit (entries_in map i).index)))

  -- how many leaves below a number may change
  unfoldable pub leaves_to_change : List Entry → ℕ → Edit → ℕ → ℕ
  leaves_to_change map inode edit n = count_by (λ i. may_change map inode edit i) (range_with_len 0 n)

  -- leaves after which an inode's object is edited, and how few they are
  pub record IsPlanned (leaves : RegionLeaves) (base : List Entry) (inode : ℕ) (head : Option (List ℕ)) (edit : Edit) (named : List Leaf) : Type 0 where
    pub map : List Entry
    pub edited : IsEdited leaves (with_leaves named leaves) base map inode edit.had head edit
    pub few : length named ≤ leaves_to_change map inode edit L.leaves
    pub changed : ChangeMap leaves named
    -- the inode's leaf is among them where it gets new bytes
    pub own : is_some head ≡ true → L.map_leaves ≤ inode → is_named named inode ≡ true

  -- there are too few free leaves for an edit
  abbrev pub LacksSpace : List Entry → Edit → Type 0
  LacksSpace base edit =
      (quota_of L < data_leaves edit.length)
      ⊎ (kept_leaves edit.had edit + free_before L (entries_in base) L.leaves < data_leaves edit.length)

  -- leaves that edit the content of an inode's object, and the inode's leaf if they change it
  pub record IsContentPlan (leaves : RegionLeaves) (map : List Entry) (inode : Inode) (edit : Edit) (named : List Leaf) : Type 0 where
    pub head : Option (List ℕ)
    pub planned : IsPlanned leaves map inode.number head edit named
    pub says : is_inode_leaf (leaves inode.number) ≡ true → inode ≡ inode_of inode.number (leaves inode.number)
        → IsHead (bytes_or head (leaves inode.number)) inode.kind inode.usage inode.id inode.secret edit.length

  -- a free leaf, and the map with a new inode there
  pub record IsNewInode (map base : List Entry) (leaf : ℕ) : Type 0 where
    pub high : leaf < L.leaves
    pub free : is_free L (entries_in map) leaf ≡ true
    pub set : (i : ℕ) → i < L.leaves → entries_in base i ≡ with_entry leaf (record { kind = INODE; inode = leaf; index = 0 }) (entries_in map) i

  -- leaves that keep a new object
  pub record IsNewPlan (leaves : RegionLeaves) (map : List Entry) (head : Head) (edit : Edit) (named : List Leaf) : Type 0 where
    pub leaf : ℕ
    pub base : List Entry
    pub block : List ℕ
    pub new : IsNewInode map base leaf
    pub says : IsHead block head.kind head.usage head.id.now head.secret.now edit.length
    pub planned : IsPlanned leaves base leaf (Some block) edit named

  -- there are too few free leaves for a new object
  pub record LacksData (map : List Entry) (edit : Edit) : Type 0 where
    pub leaf : ℕ
    pub base : List Entry
    pub new : IsNewInode map base leaf
    pub lacks : LacksSpace base edit

  -- there is no free leaf for a new inode, or too few for its data
  abbrev pub LacksNew : List Entry → Edit → Type 0
  LacksNew map edit = (free_before L (entries_in map) L.leaves ≡ 0) ⊎ LacksData map edit
