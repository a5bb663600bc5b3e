-- The store that the leaves of a region stand for, or the least leaf that breaks a rule.
use Rattle.std.specs.Prelude.{ℕ, ◌+◌, ◌-◌, ◌*◌, ◌/◌, ◌%◌, ◌==◌, nat_le, Bool, not, ◌&&◌, ◌||◌, List, map, Option, None, Some, Result, Ok, Err, take, drop}
use Rattle.std.specs.List.{range_with_len, filter, find, list_any, list_all, count_by, slice_index}
use Rattle.std.specs.Str.{bytes_eq}
use Rattle.std.specs.FinMap as finite
use Rattle.tee_base.specs.declared.limits.TheConstants.{BLOCK_BYTES}
use Rattle.store_api.specs.declared.object.Object.{Object}
use Rattle.store_api.specs.Stores.{Store}
use Rattle.region_plan.specs.Layout.{Layout}
use Rattle.region_plan.specs.Parts.{are_zero}
use Rattle.region_plan.specs.Entries.{entry_at, is_inode, is_data_of, is_data_at, is_used, is_well_formed}
use Rattle.region_plan.specs.Inodes.{four_at, length_in, identifier_in, secret_in, inode_of, is_inode_leaf}
use Rattle.region_plan.specs.declared.inode.Inode.{Inode}
use Rattle.region_plan.specs.declared.inode.TheConstants.{USAGE_AT}
use Rattle.region_plan.specs.declared.entry.TheConstants.{DATA}
use Rattle.tee_base.specs.Words.{RegionLeaves}

-- how many leaves a content of so many bytes takes
abbrev pub data_leaves : ℕ → ℕ
data_leaves n = (n + 1023) / BLOCK_BYTES

-- the numbers of a region's leaves
unfoldable pub numbers : Layout → List ℕ
numbers L = range_with_len 0 L.leaves

module _ (L : Layout) (leaves : RegionLeaves) where
  -- how many leaves are in use
  unfoldable pub used_leaves : ℕ
  used_leaves = count_by (λ i. is_used L leaves i) (numbers L)

  -- an inode before this one has the same identifier
  unfoldable pub is_doubled : ℕ → Bool
  is_doubled inode = list_any (λ other. is_inode L leaves other && bytes_eq (identifier_in (leaves other)) (identifier_in (leaves inode))) (range_with_len 0 inode)

  -- there is one leaf for the data of an inode at an index
  abbrev pub has_one : ℕ → ℕ → Bool
  has_one inode index = count_by (λ i. is_data_at L leaves inode index i) (numbers L) == 1

  -- the leaf is data of an inode past its end
  abbrev pub is_past : ℕ → ℕ → Bool
  is_past inode i = is_data_of L leaves inode i && nat_le (data_leaves (length_in (leaves inode))) (entry_at L leaves i).index

  -- the data of an inode has each index once, and no other
  unfoldable pub has_data : ℕ → Bool
  has_data inode =
      list_all (λ index. has_one inode index) (range_with_len 0 (data_leaves (length_in (leaves inode))))
      && not (list_any (λ i. is_past inode i) (numbers L))

  -- a data leaf has zeros past the end of its content
  unfoldable pub is_padded : ℕ → Bool
  is_padded i =
      let inode = (entry_at L leaves i).inode in
      is_past inode i || are_zero (drop (length_in (leaves inode) - BLOCK_BYTES * (entry_at L leaves i).index) (take BLOCK_BYTES (leaves i)))

  -- the leaf breaks a rule
  unfoldable pub breaks : ℕ → Bool
  breaks i =
      not (is_well_formed L leaves i)
      || ((is_inode L leaves i && not (is_inode_leaf (leaves i) && (not (is_doubled i) && has_data i)))
      || (((entry_at L leaves i).kind == DATA) && not (is_padded i)))

  -- the leaf that holds the data of an inode at an index
  unfoldable pub leaf_of : ℕ → ℕ → Option ℕ
  leaf_of inode index = find (λ i. is_data_at L leaves inode index i) (numbers L)

  -- the byte of a leaf at a place, 0 where there is no leaf
  abbrev pub byte_in : Option ℕ → ℕ → ℕ
  byte_in None at = 0
  byte_in (Some i) at = slice_index (leaves i) at

  -- the byte of an inode's content at a place
  unfoldable pub byte_at : ℕ → ℕ → ℕ
  byte_at inode at = byte_in (leaf_of inode (at / BLOCK_BYTES)) (at % BLOCK_BYTES)

  -- the content of an inode, byte by byte
  unfoldable pub content_of : ℕ → List ℕ
  content_of inode = map (λ at. byte_at inode at) (range_with_len 0 (length_in (leaves inode)))

  -- the object of an inode
  unfoldable pub object_of : ℕ → Object
  object_of inode = record {
    kind = four_at 0 (leaves inode);
    usage = four_at USAGE_AT (leaves inode);
    secret = secret_in (leaves inode);
    content = content_of inode;
  }

  -- the inodes, in ascending order
  unfoldable pub inode_numbers : List ℕ
  inode_numbers = filter (λ i. is_inode L leaves i) (numbers L)

  -- what the inode leaves tell
  unfoldable pub inodes_of : List Inode
  inodes_of = map (λ i. inode_of i (leaves i)) inode_numbers

  -- the object of each inode under its identifier
  unfoldable pub store_of : Store
  store_of = finite.from_entries (map (λ i. (identifier_in (leaves i), object_of i)) inode_numbers)

  -- the least leaf that breaks a rule
  unfoldable pub first_broken : Option ℕ
  first_broken = find (λ i. breaks i) (numbers L)

  -- the store, unless a leaf breaks a rule: that leaf then
  abbrev pub unless_broken : Option ℕ → Result Store ℕ
  unless_broken None = Ok store_of
  unless_broken (Some i) = Err i

  -- the store that the leaves stand for, or the least of them that breaks a rule
  unfoldable pub region_of : Result Store ℕ
  region_of = unless_broken first_broken
