-- A change of the objects as a change of leaves.
use Rattle.std.specs.Prelude.{ℕ, ◌≡◌, ◌+◌, ◌-◌, ◌/◌, ◌≤◌, ◌==◌, min, List, Option, None, Some, Result, Ok, Err, IfOk, IsTrue, if◌then◌else◌, length}
use Rattle.tee_base.specs.declared.limits.TheConstants.{BLOCK_BYTES}
use Rattle.store_api.specs.declared.answer.StoreAnswer.{StoreAnswer}
use Rattle.store_api.specs.declared.change.Change.{Change}
use Rattle.store_api.specs.declared.change.Change.TheVariants.{Put, Delete, Rename, Write, Truncate}
use Rattle.store_api.specs.declared.leaves.Leaf.{Leaf}
use Rattle.store_api.specs.declared.object.Object.{Object}
use Rattle.store_api.specs.Ascending.{is_above_all}
use Rattle.store_api.specs.Keeping.{Answers}
use Rattle.store_api.specs.Stores.{Store, object_at}
use Rattle.store_api.specs.Volumes.{VolumeKeeper}
use Rattle.region_plan.specs.Directories.{IsDirectoryOf}
use Rattle.region_plan.specs.Layout.{Layout, layout}
use Rattle.region_plan.specs.Plans.{ChangeMap, NamesInodes, with_leaves}
use Rattle.region_plan.specs.Quotas.{change_in}
use Rattle.region_plan.specs.Reading.{ReadsOnly, IfAnswered, IfGarbled, IsBroken, IsSound, refusal_of, leaves_of}
use Rattle.region_plan.specs.Regions.{data_leaves, region_of}
use Rattle.region_plan.specs.declared.directory.Directory.{Directory}
use Rattle.region_plan.specs.declared.form.Form.TheVariants.{Two}
use Rattle.tee_base.specs.Words.{Identifier, RegionLeaves}

-- how long a content is, if there is one
abbrev pub content_length : Option Object → ℕ
content_length None = 0
content_length (Some o) = length o.content

-- how many leaves are written from a place of an object's content to another one, besides the map and its inode
abbrev pub leaves_from : Store → Identifier → ℕ → ℕ → ℕ
leaves_from store id at end = data_leaves end - min at (content_length (object_at store id)) / BLOCK_BYTES

-- how many leaves a change needs at most: the map, the inode, and the data that it writes
abbrev pub most_leaves : Layout → Store → Change → ℕ
most_leaves L store (Put id kind usage secret content overwrite) = L.map_leaves + 1 + data_leaves (length content)
most_leaves L store (Delete id) = L.map_leaves
most_leaves L store (Rename id to) = 1
most_leaves L store (Write id at bytes) = if length bytes == 0 then 0 else L.map_leaves + 1 + leaves_from store id at (at + length bytes)
most_leaves L store (Truncate id n) = L.map_leaves + 1 + leaves_from store id n n

-- leaves after which a region stands for the changed store
pub record IsPlanOf (L : Layout) (leaves : RegionLeaves) (store : Store) (c : Change) (named : List Leaf) : Type 0 where
  pub after : Store
  pub changes : change_in L store c ≡ Ok after
  pub stands : region_of L (with_leaves named leaves) ≡ Ok after
  pub few : length named ≤ most_leaves L store c
  pub changed : ChangeMap L leaves named
  pub told : NamesInodes L leaves named

-- a plan of a change, or the change's own refusal; what keeps it from an answer may come instead
abbrev pub Plans : Layout → RegionLeaves → Store → Change → Result (List Leaf) StoreAnswer → Type 0
Plans L leaves store c (Ok named) = IsPlanOf L leaves store c named
Plans L leaves store c (Err refusal) = Answers {A = Store} (Err refusal) (change_in L store c)

-- a call that plans a change by a directory of a region of the second form, where that is of the leaves as they are found, and changes
-- nothing itself
pub record PlansFrom {S : Type 0} (K : VolumeKeeper S) (region : S → ℕ) (d : Directory) (c : Change) (result : Result (List Leaf) StoreAnswer) (old new : S) : Type 0 where
  pub plans : IsTrue K.tells_reads → IsDirectoryOf (leaves_of K region old) d → (store : Store) → region_of (layout Two) (leaves_of K region old) ≡ Ok store
      → Plans (layout Two) (leaves_of K region old) store c result
  pub named : IfOk result (λ named. IsTrue (is_above_all named (layout Two).leaves))
  pub garbled : IfGarbled (refusal_of result) (λ leaf. ⊥)
  pub reads : ReadsOnly K region (refusal_of result) old new

module _ {S : Type 0} (K : VolumeKeeper S) (region : S → ℕ) (L : Layout) where
  -- a call that plans a change, and changes nothing itself
  pub record PlansChange (c : Change) (result : Result (List Leaf) StoreAnswer) (old new : S) : Type 0 where
    -- an answer comes only of a map and inodes without damage that keep the rules, and is that of the leaves as they are found
    pub sound : IsTrue K.tells_reads → IfAnswered (refusal_of result) (IsSound K region L old)
    pub plans : IsTrue K.tells_reads → (store : Store) → region_of L (leaves_of K region old) ≡ Ok store → Plans L (leaves_of K region old) store c result
    -- it names leaves of the region
    pub named : IfOk result (λ named. IsTrue (is_above_all named L.leaves))
    -- a leaf that is told breaks a rule
    pub garbled : IfGarbled (refusal_of result) (λ leaf. IsBroken K region L old leaf)
    pub reads : ReadsOnly K region (refusal_of result) old new
