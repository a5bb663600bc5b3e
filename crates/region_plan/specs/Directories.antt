-- What the map and the inode leaves of a region say, as one value.
use Rattle.std.specs.Prelude.{ℕ, ◌≡◌, ◌≤◌, ◌<◌, true, length, Result, IfOk, IsTrue}
use Rattle.std.specs.List.{All}
use Rattle.store_api.specs.declared.answer.StoreAnswer.{StoreAnswer}
use Rattle.store_api.specs.Keeping.{Answers}
use Rattle.store_api.specs.Stores.{Store}
use Rattle.store_api.specs.Volumes.{VolumeKeeper}
use Rattle.region_plan.specs.Layout.{layout}
use Rattle.region_plan.specs.Entries.{is_inode, is_well_formed}
use Rattle.region_plan.specs.Places.{AreWritable, IsMapOf}
use Rattle.region_plan.specs.Plans.{IsDecided}
use Rattle.region_plan.specs.Reading.{IfGarbled, IsWhole, ReadsOnly, leaves_of, refusal_of}
use Rattle.region_plan.specs.Regions.{breaks, inodes_of, store_of}
use Rattle.region_plan.specs.Tables.{IsWithin}
use Rattle.region_plan.specs.declared.directory.Directory.{Directory}
use Rattle.tee_base.specs.Words.{RegionLeaves}

-- whatever was read, a directory keeps to the limits of its form
pub record IsBounded (d : Directory) : Type 0 where
  pub inodes : All (IsWithin (layout d.form)) d.inodes
  pub map : AreWritable (layout d.form) d.map
  pub few : length d.inodes ≤ (layout d.form).leaves

-- a directory says what the map and the inodes of these leaves say, which keep the rules
pub record IsDirectoryOf (leaves : RegionLeaves) (d : Directory) : Type 0 where
  pub map : IsMapOf (layout d.form) leaves d.map
  pub inodes : d.inodes ≡ inodes_of (layout d.form) leaves
  pub formed : (i : ℕ) → i < (layout d.form).leaves → is_well_formed (layout d.form) leaves i ≡ true
  pub whole : (i : ℕ) → i < (layout d.form).leaves → is_inode (layout d.form) leaves i ≡ true → IsWhole (layout d.form) leaves i

-- a look-up in a directory, without a read: this is stated of the store of the leaves that it is of, whichever they are, and the answer
-- is within these bounds in any case
pub record LooksUp {A : Type 0} (stated : Store → Result A StoreAnswer) (Bounds : A → Type 0) (d : Directory) (result : Result A StoreAnswer) : Type 0 where
  pub answer : (leaves : RegionLeaves) → IsDirectoryOf leaves d → Answers result (stated (store_of (layout d.form) leaves))
  pub bounds : IfOk result (λ a. Bounds a)
  pub decided : IsDecided (refusal_of result)

module _ {S : Type 0} (K : VolumeKeeper S) (region : S → ℕ) where
  -- a call that reads leaves of data by a directory: this is stated of the store, where the directory is of the leaves as they are found
  pub record ReadsFrom {A : Type 0} (d : Directory) (stated : Store → Result A StoreAnswer) (Bounds : A → Type 0) (result : Result A StoreAnswer) (old new : S) : Type 0 where
    pub answer : IsTrue K.tells_reads → IsDirectoryOf (leaves_of K region old) d → Answers result (stated (store_of (layout d.form) (leaves_of K region old)))
    pub bounds : IfOk result (λ a. Bounds a)
    -- a leaf that is told is one of the region's, and breaks a rule
    pub few : IfGarbled (refusal_of result) (λ leaf. leaf < (layout d.form).leaves)
    pub garbled : IsTrue K.tells_reads → IsDirectoryOf (leaves_of K region old) d
        → IfGarbled (refusal_of result) (λ leaf. IsTrue (breaks (layout d.form) (leaves_of K region old) leaf))
    pub reads : ReadsOnly K region (refusal_of result) old new
