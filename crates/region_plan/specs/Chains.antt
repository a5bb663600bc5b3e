-- The data leaves of each inode, one after another from the last one down.
use Rattle.std.specs.Prelude.{ℕ, zero, suc, ◌≡◌, ◌+◌, ◌-◌, ◌<◌, ◌≤◌, ◌==◌, nat_lt, Bool, true, ◌&&◌, List, Option, None, Some, slice_index_or, length, if◌then◌else◌}
use Rattle.std.specs.List.{range_with_len, find}
use Rattle.region_plan.specs.Layout.{Layout}
use Rattle.region_plan.specs.Places.{is_of}
use Rattle.region_plan.specs.declared.entry.Entry.{Entry}

-- a link is one more than the leaf that it leads to, and 0 where there is none
abbrev pub link_to : Option ℕ → ℕ
link_to None = 0
link_to (Some leaf) = leaf + 1

-- the link at a place of a list
abbrev pub links_in : List ℕ → ℕ → ℕ
links_in links i = slice_index_or links i 0

-- the link to the last data leaf of an inode below a number
abbrev pub last_below : (ℕ → Entry) → ℕ → ℕ → ℕ
last_below entries inode zero = 0
last_below entries inode (suc i) = if is_of inode (entries i) then suc i else last_below entries inode i

-- links to the last data leaf of each inode below a number, and from each to the one before it
pub record AreChains (entries : ℕ → Entry) (end : ℕ) (last next : List ℕ) : Type 0 where
  pub lasts : (inode : ℕ) → inode < 1024 → links_in last inode ≡ last_below entries inode end
  pub nexts : (i inode : ℕ) → i < end → inode < 1024 → is_of inode (entries i) ≡ true → links_in next i ≡ last_below entries inode i

-- an entry is the data of an inode at an index
abbrev pub is_at : ℕ → ℕ → Entry → Bool
is_at inode index e = is_of inode e && (e.index == index)

-- the first leaf from a number on that is the data of an inode at an index
unfoldable pub leaf_from : (ℕ → Entry) → ℕ → ℕ → ℕ → ℕ → Option ℕ
leaf_from entries end inode index from = find (λ i. is_at inode index (entries i)) (range_with_len from (end - from))

-- a link to a leaf with this entry is the one at its index in a list
abbrev pub is_first : List ℕ → Entry → ℕ → Bool
is_first firsts e link = nat_lt e.index (length firsts) && (links_in firsts e.index == link)

-- links of a list lead to leaves of a region
abbrev pub AreBelow : Layout → List ℕ → Type 0
AreBelow L links = (index : ℕ) → index < length links → links_in links index ≤ L.leaves
