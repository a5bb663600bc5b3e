-- Look-ups among the inodes of a region.
use Rattle.std.specs.Prelude.{ℕ, ◌≡◌, ◌<◌, Bool, true, not, ◌&&◌, List, [], ◌∷◌, map, length, Option, None, Some, if◌then◌else◌}
use Rattle.std.specs.List.{find, filter, range_with_len}
use Rattle.std.specs.Ordering.{nat_cmp, is_lt}
use Rattle.std.specs.Cmp.Lexicographic.{slice_cmp}
use Rattle.std.specs.Str.{bytes_eq}
use Rattle.store_api.specs.Limits.{IsIdentifier, IsSecret}
use Rattle.store_api.specs.Stores.{is_after}
use Rattle.store_api.specs.declared.object.Facts.{Facts}
use Rattle.region_plan.specs.Layout.{Layout}
use Rattle.region_plan.specs.Entries.{is_inode}
use Rattle.region_plan.specs.Inodes.{length_in, inode_of}
use Rattle.region_plan.specs.Chains.{link_to, links_in}
use Rattle.region_plan.specs.Regions.{leaf_of}
use Rattle.region_plan.specs.declared.inode.Inode.{Inode}
use Rattle.tee_base.specs.Words.{Identifier, RegionLeaves}

-- the identifier, the secret and the leaf of an inode are within their limits
abbrev pub IsWithin : Layout → Inode → Type 0
IsWithin L inode = IsIdentifier inode.id × IsSecret inode.secret × (inode.number < L.leaves)

-- the first inode of an identifier
abbrev pub inode_with : Identifier → List Inode → Option Inode
inode_with id inodes = find (λ inode. bytes_eq inode.id id) inodes

-- there is no better inode so far, or one whose identifier isn't less
abbrev pub is_better : Option Inode → Inode → Bool
is_better None inode = true
is_better (Some best) inode = not (is_lt (slice_cmp nat_cmp best.id inode.id))

-- the inode of the least identifier greater than the last one
abbrev pub best_after : Option (List ℕ) → List Inode → Option Inode
best_after last [] = None
best_after last (inode ∷ rest) =
    let best = best_after last rest in
    if is_after last inode.id && is_better best inode then Some inode else best

-- what is told of the object of an inode
abbrev pub inode_facts : Inode → Facts
inode_facts inode = record { kind = inode.kind; usage = inode.usage; secret = length inode.secret; length = inode.length }

-- the inodes below a number, in ascending order
unfoldable pub inodes_below : Layout → RegionLeaves → ℕ → List Inode
inodes_below L leaves n = map (λ i. inode_of i (leaves i)) (filter (λ i. is_inode L leaves i) (range_with_len 0 n))

-- a leaf is an inode with a content of this length, where these are links to the leaves of its data
pub record IsInode (L : Layout) (leaves : RegionLeaves) (links : List ℕ) (number length' : ℕ) : Type 0 where
  pub first : (index : ℕ) → index < length links → links_in links index ≡ link_to (leaf_of L leaves number index)
  pub inode : is_inode L leaves number ≡ true
  pub long : length' ≡ length_in (leaves number)
