-- What a directory says after leaves of its region were written.
use Rattle.std.specs.Prelude.{ℕ, ◌≡◌, ◌≤◌, ◌<◌, ◌-◌, ◌==◌, Bool, true, not, ◌&&◌, List, [], map, length, Result, Ok, Err, is_none}
use Rattle.std.specs.List.{filter, range_with_len}
use Rattle.store_api.specs.declared.answer.StoreAnswer.{StoreAnswer}
use Rattle.store_api.specs.declared.answer.StoreAnswer.TheVariants.{NoMemory}
use Rattle.store_api.specs.declared.leaves.Leaf.{Leaf}
use Rattle.store_api.specs.Volumes.{leaf_after}
use Rattle.region_plan.specs.Directories.{IsDirectoryOf}
use Rattle.region_plan.specs.Entries.{is_inode}
use Rattle.region_plan.specs.Inodes.{inode_of, is_inode_leaf}
use Rattle.region_plan.specs.Layout.{Layout}
use Rattle.region_plan.specs.Plans.{is_named}
use Rattle.region_plan.specs.Tables.{inode_with}
use Rattle.region_plan.specs.declared.directory.Directory.{Directory}
use Rattle.region_plan.specs.declared.entry.Entry.{Entry}
use Rattle.region_plan.specs.declared.entry.TheConstants.{INODE}
use Rattle.region_plan.specs.declared.inode.Inode.{Inode}
use Rattle.tee_base.specs.Words.{RegionLeaves}

-- an answer is a directory of these leaves, unless there was no memory
abbrev pub IsDirectoryThen : RegionLeaves → Result Directory StoreAnswer → Type 0
IsDirectoryThen leaves (Ok d) = IsDirectoryOf leaves d
IsDirectoryThen leaves (Err NoMemory) = Unit {0}
IsDirectoryThen leaves (Err _) = ⊥

-- so it is with inodes
abbrev pub AreInodesThen : List Inode → Result (List Inode) StoreAnswer → Type 0
AreInodesThen wanted (Ok inodes) = inodes ≡ wanted
AreInodesThen wanted (Err NoMemory) = Unit {0}
AreInodesThen wanted (Err _) = ⊥

-- the inode of a leaf stays: the leaf is still one, and isn't among those that are written
abbrev pub stays : (ℕ → Entry) → List Leaf → ℕ → Bool
stays entries named i = ((entries i).kind == INODE) && not (is_named named i)

-- the inode of a leaf is new: the leaf is one, and among those that are written
abbrev pub comes : (ℕ → Entry) → List Leaf → ℕ → Bool
comes entries named i = ((entries i).kind == INODE) && is_named named i

-- leaves that were written have their bytes
abbrev pub AreWritten : List Leaf → RegionLeaves → Type 0
AreWritten named leaves = (i : ℕ) → is_named named i ≡ true → leaves i ≡ leaf_after named i []

-- the inodes from a leaf on that aren't among those that were written
unfoldable pub unwritten_from : Layout → RegionLeaves → List Leaf → ℕ → List Inode
unwritten_from L leaves named a =
    map (λ j. inode_of j (leaves j)) (filter (λ j. is_inode L leaves j && not (is_named named j)) (range_with_len a (L.leaves - a)))

-- an inode of these bytes fits in at a place among others: there is room, its leaf keeps the rules, and no other has its identifier
pub record FitsAt (inodes : List Inode) (place leaf : ℕ) (bytes : List ℕ) : Type 0 where
  pub few : length inodes < 1024
  pub inside : place ≤ length inodes
  pub rules : is_inode_leaf bytes ≡ true
  pub new : is_none (inode_with (inode_of leaf bytes).id inodes) ≡ true
