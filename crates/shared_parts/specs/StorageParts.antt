-- The storage that applications share: the part of each of them, the trail, and what the storage's type keeps of both.
use Rattle.app_api.specs.Behaviours.{Behaviour}
use Rattle.std.specs.Prelude.{ℕ, ◌≡◌, ◌<◌, ◌≤◌, ◌+◌, ◌==◌, Bool, true, false, ◌||◌, List, [], ◌∷◌, Option, None, Some, if◌then◌else◌, length, map, slice_index_or}
use Rattle.std.specs.declared.snapshot.Snapshot.{Snapshot}
use Rattle.tee_base.specs.Faults.{Rose}
use Rattle.tee_base.specs.declared.limits.TheConstants.{MAX_HOSTS}
use Rattle.store_api.specs.Stores.{Store, empty_store}
use Rattle.store_api.specs.Volumes.{Condition, VolumeKeeper}
use Rattle.object_dir.specs.Regions.{KeepsStore, store_in}
use Rattle.alone.specs.declared.turn.TurnKind.{TurnKind}
use Rattle.alone.specs.declared.turn.TurnKind.TheVariants as kinds
use Rattle.alone.specs.Step.{TurnLost, step}
use Rattle.app_side.specs.Represents.{machine_of, over}
use Rattle.app_side.specs.declared.side.AppSide.{AppSide}
use Rattle.tee_core.specs.Moments.{KeepsFoundation}
use Rattle.region_plan.specs.declared.directory.Directory.{Directory}
use Rattle.tee_core.specs.Directories.{AreHeld}
use Rattle.tee_core.specs.Represents.{StandFor}
use Rattle.tee_core.specs.World.{World}
use Rattle.shared_parts.specs.InStep.{StoragePart, part_of}
use Rattle.shared_parts.specs.declared.storage.Loss.{Loss}

-- ---- what is seen of the storage

-- an entry of its trail: so many applications began over this volume; or a turn of one of them lost it, after which the count of faults was this
pub data StorageEntry (V : Type 0) : Type 0 where
  Opened : (apps : ℕ) (volume : V) → StorageEntry V
  LostBy : (app faults : ℕ) → StorageEntry V

-- the volume, the part of each application, and the trail
pub record StorageView (V : Type 0) : Type 0 where
  pub volume : V
  pub parts : List StoragePart
  pub trail : List (StorageEntry V)

-- the part of an application that isn't there
abbrev pub no_part : StoragePart
no_part = record { store = empty_store; in_doubt = None }

-- the part of the application of this index
abbrev pub part_at : List StoragePart → ℕ → StoragePart
part_at parts app = slice_index_or parts app no_part

module _ {V : Type 0} where
  -- the first entry of a trail
  abbrev pub first_of : List (StorageEntry V) → StorageEntry V
  first_of trail = slice_index_or trail 0 (LostBy 0 0)

  -- the entry is that of a loss
  abbrev pub is_loss : StorageEntry V → Bool
  is_loss (Opened apps volume) = false
  is_loss (LostBy app faults) = true

  -- the trail holds the loss
  abbrev pub is_lost_at : List (StorageEntry V) → Bool
  is_lost_at [] = false
  is_lost_at (e ∷ trail) = is_loss e || is_lost_at trail

  -- what a turn of this kind adds to the trail, after which the count of faults is this
  abbrev pub losses_by : ℕ → ℕ → TurnKind → List (StorageEntry V)
  losses_by app faults kinds.Plain = []
  losses_by app faults (kinds.Lost change) = LostBy app faults ∷ []
  losses_by app faults kinds.Starved = []
  losses_by app faults kinds.Corrupted = []

  -- what stands in the trail behind the opening, from which the board came to stand so: nothing while the volume serves; where it is lost,
  -- the loss, whose count is greater than the one at the opening
  abbrev pub AreLosses : List (StorageEntry V) → Condition → Condition → Type 0
  AreLosses [] opened now = now.lost ≡ false
  AreLosses (LostBy app faults ∷ []) opened now = (now.lost ≡ true) × Rose opened.faults faults × (faults ≤ now.faults)
  AreLosses _ opened now = ⊥

module _ {V : Type 0} (K : VolumeKeeper V) where
  -- the mark of a trail's first entry: the volume was honest, and the region of each application stood for a store
  abbrev pub IsMarked : StorageEntry V → Type 0
  IsMarked (Opened apps volume) = (app : ℕ) → app < apps → KeepsStore K app volume
  IsMarked (LostBy app faults) = ⊥

  -- the parts of so many applications over a volume that was just opened: each has the store of its region, and no change in doubt
  pub record AreOpened (apps : ℕ) (volume : V) (parts : List StoragePart) : Type 0 where
    pub each : length parts ≡ apps
    pub part : (app : ℕ) → app < apps → part_at parts app ≡ record { store = store_in app (K.held volume); in_doubt = None }

  -- the volume keeps just these parts: there are machines that have them, for which it stands. So it is honest, and each thing that a
  -- crash may leave of it has the parts' stores, where the change in doubt may stand in its owner's place
  pub record IsStoredFor (A : Type 0) (parts : List StoragePart) (volume : V) : Type 0 where
    pub sides : List (AppSide A)
    pub world : World A
    pub are : map (λ m. part_of m) world ≡ parts
    pub stands : StandFor K sides volume world

  -- what the storage's type keeps of what is seen of it
  pub record KeepsStorage (A : Type 0) (s : StorageView V) : Type 0 where
    pub some : 0 < length s.parts
    pub few : length s.parts ≤ MAX_HOSTS
    -- the trail begins with the opening, and goes on with the loss where there is one
    pub opened : V
    pub losses : List (StorageEntry V)
    pub trail : s.trail ≡ Opened (length s.parts) opened ∷ losses
    pub lost : AreLosses losses (K.condition opened) (K.condition s.volume)
    -- the count of faults isn't below the one at the opening, and the volume stands where it stood, with no order made
    pub since : KeepsFoundation (K.condition opened) (K.condition s.volume)
    -- what the volume stands on is honest, if it was at the opening
    pub below : K.honest_below opened → K.honest_below s.volume
    -- where the mark is set the volume keeps the parts
    pub kept : IsMarked (Opened (length s.parts) opened) → IsStoredFor A s.parts s.volume

-- ---- how it is kept

-- behaviour has the applications' two stated functions
module _ {V A : Type 0} (K : VolumeKeeper V) (behaviour : Behaviour A) where
  -- the change that the turn left in doubt which lost the storage
  abbrev pub doubt_left : Loss V A → Option Store
  doubt_left loss =
      (step behaviour (over (store_in loss.app (K.held loss.volume.value)) None (machine_of loss.side.value)) (TurnLost loss.instance)).machine.in_doubt

  -- the change in doubt of an application: that of the one whose turn lost the storage
  abbrev pub doubt_by : Option (Loss V A) → ℕ → Option Store
  doubt_by None app = None
  doubt_by (Some loss) app = if loss.app == app then doubt_left loss else None

  -- the part of an application whose last turn left the volume so
  abbrev pub part_by : Option (Loss V A) → ℕ → V → StoragePart
  part_by loss app seen = record { store = store_in app (K.held seen); in_doubt = doubt_by loss app }

  -- the parts of the applications from this one on
  abbrev pub parts_from : Option (Loss V A) → ℕ → List V → List StoragePart
  parts_from loss app [] = []
  parts_from loss app (seen ∷ more) = part_by loss app seen ∷ parts_from loss (app + 1) more

  -- those of all of them
  abbrev pub parts_by : Option (Loss V A) → List (Snapshot V) → List StoragePart
  parts_by loss seen = parts_from loss 0 (map (λ s. s.value) seen)

module _ {V A : Type 0} where
  -- the entries behind the opening
  abbrev pub losses_in : Option (Loss V A) → List (StorageEntry V)
  losses_in None = []
  losses_in (Some loss) = LostBy loss.app loss.faults ∷ []

  -- the trail of so many applications over a volume that was opened so
  abbrev pub trail_by : ℕ → V → Option (Loss V A) → List (StorageEntry V)
  trail_by apps opened loss = Opened apps opened ∷ losses_in loss

  -- the loss that is known after a turn of this kind, where this is the one found in it
  abbrev pub loss_after : Option (Loss V A) → TurnKind → Loss V A → Option (Loss V A)
  loss_after known kinds.Plain found = known
  loss_after known (kinds.Lost change) found = Some found
  loss_after known kinds.Starved found = known
  loss_after known kinds.Corrupted found = known

  -- the type keeps this of its fields: how many applications there are, the volume, how it was opened, its loss, the directories that
  -- are kept of regions, and the parts
  pub record IsStorage (K : VolumeKeeper V) (apps : ℕ) (volume opened : V) (loss : Option (Loss V A)) (dirs : List (Option Directory)) (parts : List StoragePart) : Type 0 where
    pub each : length parts ≡ apps
    pub some : 0 < apps
    pub few : apps ≤ MAX_HOSTS
    pub lost : AreLosses (losses_in loss) (K.condition opened) (K.condition volume)
    pub since : KeepsFoundation (K.condition opened) (K.condition volume)
    pub below : K.honest_below opened → K.honest_below volume
    pub kept : IsMarked K (Opened apps opened) → IsStoredFor K A parts volume
    pub held : IsMarked K (Opened apps opened) → AreHeld (K.held volume).leaves dirs
