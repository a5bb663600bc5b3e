-- The directory of a region that is kept between calls.
use Rattle.std.specs.Prelude.{◌≡◌, Bool, true, false, Option, None, Some, Result, IfOk, IsTrue}
use Rattle.tee_base.specs.Words.{RegionLeaves}
use Rattle.store_api.specs.declared.answer.StoreAnswer.{StoreAnswer}
use Rattle.store_api.specs.declared.answer.StoreAnswer.TheVariants.{Garbled}
use Rattle.store_api.specs.declared.change.Change.{Change}
use Rattle.store_api.specs.Keeping.{Answers}
use Rattle.store_api.specs.Stores.{Store}
use Rattle.store_api.specs.Volumes.{VolumeKeeper}
use Rattle.region_plan.specs.Directories.{IsBounded, IsDirectoryOf}
use Rattle.region_plan.specs.Reading.{IfAnswered, IfGarbled, IsBroken, IsSound, ReadsOnly, leaves_of, refusal_of}
use Rattle.region_plan.specs.Regions.{store_of}
use Rattle.region_plan.specs.declared.directory.Directory.{Directory}
use Rattle.region_plan.specs.declared.form.Form.TheVariants.{Two}
use Rattle.object_dir.specs.Changing.{ChangesRegion, CommitsOnce}
use Rattle.object_dir.specs.Regions.{HasStore, in_use, number_of, region_keeper}
use Rattle.object_dir.specs.declared.region.Region.{Region}

-- a refusal tells of a leaf that breaks a rule
abbrev pub tells_garbled : Option StoreAnswer → Bool
tells_garbled (Some (Garbled leaf)) = true
tells_garbled _ = false

-- a directory that is kept is of the form in use, and within its bounds whatever was read
pub record IsKept (d : Directory) : Type 0 where
  pub form : d.form ≡ Two
  pub bounded : IsBounded d

-- a directory, if one is kept, is that of these leaves, in the form in use
abbrev pub IsHeld : RegionLeaves → Option Directory → Type 0
IsHeld leaves None = Unit {0}
IsHeld leaves (Some d) = (d.form ≡ Two) × IsDirectoryOf leaves d

module _ {V : Type 0} (K : VolumeKeeper V) where
  -- a directory, if one is kept, is that of the region's leaves as they are found, whose map and inodes have no damage
  abbrev pub IsFound : Option Directory → Region V → Type 0
  IsFound None r = Unit {0}
  IsFound (Some d) r = (d.form ≡ Two) × IsDirectoryOf (leaves_of (region_keeper K) number_of r) d × IsSound (region_keeper K) number_of in_use r

  -- a call that changes nothing, with the directory that was kept and the one that is kept afterwards
  pub record ReadsKept {A : Type 0} (kept then' : Option Directory) (stated : Store → Result A StoreAnswer) (Bounds : A → Type 0) (result : Result A StoreAnswer) (old new : Region V) : Type 0 where
    -- where that was of the leaves as they are found, an answer comes only of a map and inodes without damage that keep the rules, is that
    -- of the leaves as they are found, and so is the directory that is kept
    pub sound : IsTrue K.tells_reads → IsFound kept old → IfAnswered (refusal_of result) (IsSound (region_keeper K) number_of in_use old)
    pub answer : IsTrue K.tells_reads → IsFound kept old → Answers result (stated (store_of in_use (leaves_of (region_keeper K) number_of old)))
    pub stays : IsTrue K.tells_reads → IsFound kept old → IsFound then' new
    -- nothing is kept over a lost volume
    pub dropped : IsTrue (K.condition new.volume.now).lost → then' ≡ None
    pub bounds : IfOk result (λ a. Bounds a)
    pub garbled : IfGarbled (refusal_of result) (λ leaf. IsBroken (region_keeper K) number_of in_use old leaf)
    pub reads : ReadsOnly (region_keeper K) number_of (refusal_of result) old new

  -- the objects of a region are changed, all at once or not at all, with the directory that was kept and the one that is kept afterwards
  pub record ChangesKept (kept then' : Option Directory) (c : Change) (result : Result (Unit {0}) StoreAnswer) (old new : Region V) : Type 0 where
    pub once : CommitsOnce K result old new
    -- where the directory that was kept is of the leaves as they are found, it is as without one
    pub made : (IsTrue K.tells_reads → (K.condition old.volume.now).lost ≡ false → IsFound kept old) → ChangesRegion K c result old new
    -- where it is of the leaves as they are held, so is the one that is kept afterwards
    pub right : HasStore K old → IsHeld ((K.held old.volume.now).leaves old.number) kept → IsHeld ((K.held new.volume.now).leaves new.number) then'
    -- nothing is kept over a lost volume
    pub dropped : IsTrue (K.condition new.volume.now).lost → then' ≡ None
