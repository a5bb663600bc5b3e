-- How the runtime begins: the storage's seat and what each application begins with.
use Rattle.std.specs.Prelude.{ℕ, zero, suc, ◌≡◌, ◌<◌, ◌≤◌, ◌+◌, true, false, List, [], ◌∷◌, ◌++◌, None, length}
use Rattle.turn_cell.specs.View.{opening_view}
use Rattle.turn_cell.specs.Words.{IsSeatOf, TableId, view as known}
use Rattle.turn_cell.specs.declared.cell.RangeSeat.{RangeSeat}
use Rattle.turn_cell.specs.declared.cell.TurnCell.{TurnCell}
use Rattle.turn_cell.specs.declared.view.SeatView.{SeatView}
use Rattle.turn_cell.specs.declared.view.Turn.TheVariants.{Free}
use Rattle.app_api.specs.declared.host.Host.{Host}
use Rattle.board.specs.Moment.{View}
use Rattle.board.specs.Runs.{Rests}
use Rattle.board.specs.Steps.{CallRun}
use Rattle.epoch.specs.Forms.{Form}
use Rattle.epoch.specs.Mounts.{LeavesOpening, OpensHonestly}
use Rattle.epoch.specs.declared.answer.OpenAnswer.{OpenAnswer}
use Rattle.epoch.specs.declared.answer.OpenAnswer.TheVariants as answers
use Rattle.store_api.specs.Stores.{Store}
use Rattle.store_api.specs.Volumes.{Held, VolumeKeeper}
use Rattle.object_dir.specs.Regions.{store_in}
use Rattle.alone.specs.Machine.{start}
use Rattle.app_side.specs.Represents.{Represents, has_doubt, is_lost, machine_of, over}
use Rattle.app_side.specs.declared.side.AppSide.{AppSide}
use Rattle.tee_core.specs.Moments.{KeepsFoundation}
use Rattle.tee_core.specs.Opening.{IsSoundFor}
use Rattle.shared_parts.specs.HostedApps.{ClientPart, HostedEvent, HostedView, Origin}
use Rattle.shared_parts.specs.InStep.{StoragePart}
use Rattle.shared_parts.specs.StorageParts.{IsMarked, IsStoredFor, Opened, StorageEntry, first_of}
use Rattle.shared_tee.specs.Dealing.{fresh_passes, fresh_seat}
use Rattle.shared_tee.specs.Ending.{ArePasses}
use Rattle.shared_tee.specs.Passes.{PassView, Places}
use Rattle.shared_tee.specs.Shared.{IsAppCell}

-- ---- the storage

module _ {V : Type 0} (K : VolumeKeeper V) where
  -- the parts of so many applications from this one on over a volume that was just opened
  abbrev pub opened_parts : V → ℕ → ℕ → List StoragePart
  opened_parts volume app zero = []
  opened_parts volume app (suc count) = record { store = store_in app (K.held volume); in_doubt = None } ∷ opened_parts volume (app + 1) count

  -- the seat of those parts that knows of apps applications and of the opening alone
  abbrev pub opened_seat : ℕ → V → ℕ → ℕ → SeatView StoragePart (StorageEntry V)
  opened_seat apps volume app count = record (opening_view (opened_parts volume app count) (Opened apps volume ∷ [])) { first = app }

  -- a seat of those parts came back: where the mark is set they are as they were
  pub record ComesBack (apps : ℕ) (volume : V) (app count : ℕ) (v : SeatView StoragePart (StorageEntry V)) : Type 0 where
    pub free : v.turn ≡ Free
    pub first : v.first ≡ app
    pub size : length v.own ≡ count
    pub began : 0 < length v.trail
    pub opened : first_of v.trail ≡ Opened apps volume
    pub parts : IsMarked K (Opened apps volume) → v.own ≡ opened_parts volume app count

  -- the volume was opened, and comes back since there was no memory for cells: its count of faults didn't fall, it stands where it stood,
  -- with no order made, and what it stands on is still honest; where the mark is set each thing that a crash may leave of it has the
  -- stores that were opened
  pub record ComesBackOpened (A : Type 0) (apps : ℕ) (opened back : V) : Type 0 where
    pub since : KeepsFoundation (K.condition opened) (K.condition back)
    pub below : K.honest_below opened → K.honest_below back
    pub stored : IsMarked K (Opened apps opened) → IsStoredFor K A (opened_parts opened 0 apps) back

-- ---- applications

module _ {A : Type 0} (seed : List ℕ) where
  -- the hosts' applications, of which the first has this index: none has run anything yet
  abbrev pub AreFresh : ℕ → List (Host A) → List (AppSide A) → Type 0
  AreFresh index [] [] = Unit {0}
  AreFresh index [] (side ∷ sides) = ⊥
  AreFresh index (host ∷ hosts) [] = ⊥
  AreFresh index (host ∷ hosts) (side ∷ sides) =
      ((store : Store) → Represents side (start host index seed store)) × (is_lost side ≡ false) × AreFresh (index + 1) hosts sides

-- it is of this index, its storage isn't lost, and it has no change in doubt
abbrev pub IsIdle : {A : Type 0} → ℕ → AppSide A → Type 0
IsIdle index side = ((machine_of side).index ≡ index) × (has_doubt side ≡ false) × (is_lost side ≡ false)

-- so it is with applications of which the first has this index
abbrev pub AreIdle : {A : Type 0} → ℕ → List (AppSide A) → Type 0
AreIdle index [] = Unit {0}
AreIdle index (side ∷ sides) = IsIdle index side × AreIdle (index + 1) sides

module _ {V A : Type 0} (K : VolumeKeeper V) (storage : TableId) (apps : ℕ) (volume : V) where
  -- the origin of an application that begins so over the region of its index
  abbrev pub origin_over : ℕ → AppSide A → Origin V A
  origin_over index side = record { storage = storage; opened = Opened apps volume; machine = over (store_in index (K.held volume)) None (machine_of side) }

  -- those of applications of which the first has this index
  abbrev pub origins_over : ℕ → List (AppSide A) → List (Origin V A)
  origins_over index [] = []
  origins_over index (side ∷ sides) = origin_over index side ∷ origins_over (index + 1) sides

  -- the origins of hosts of which the first has this index: each begins over the store of its region
  abbrev pub origins_of : List ℕ → ℕ → List (Host A) → List (Origin V A)
  origins_of seed index [] = []
  origins_of seed index (host ∷ hosts) =
      record { storage = storage; opened = Opened apps volume; machine = start host index seed (store_in index (K.held volume)) } ∷ origins_of seed (index + 1) hosts

-- ---- cells and passes

-- an application's cell, and a seat of it that has the parts of all clients
abbrev pub BegunCell : Type 0 → Type 0 → Type 0
BegunCell V A = TurnCell (HostedView V A) ClientPart (HostedEvent V A) × RangeSeat (HostedView V A) ClientPart (HostedEvent V A)

module _ {V A : Type 0} where
  -- they are of the application of this place, which begins at this origin
  pub record IsBegun (app : ℕ) (origin : Origin V A) (begun : BegunCell V A) : Type 0 where
    pub cell : IsAppCell app begun.0
    pub index : origin.machine.index ≡ app
    pub own : IsSeatOf begun.0 begun.1
    pub seat : known begun.1 ≡ fresh_seat origin 0 8

  -- the same of applications of which the first has this place
  abbrev pub AreBegun : ℕ → List (Origin V A) → List (BegunCell V A) → Type 0
  AreBegun app [] [] = Unit {0}
  AreBegun app [] (b ∷ begun) = ⊥
  AreBegun app (o ∷ origins) [] = ⊥
  AreBegun app (o ∷ origins) (b ∷ begun) = IsBegun app o b × AreBegun (app + 1) origins begun

  -- the fresh passes of applications of which the first has this place, eight of each
  abbrev pub all_fresh : ℕ → List TableId → List (Origin V A) → List (PassView V A)
  all_fresh app [] origins = []
  all_fresh app (cell ∷ cells) [] = []
  all_fresh app (cell ∷ cells) (origin ∷ origins) = fresh_passes cell origin app 0 8 ++ all_fresh (app + 1) cells origins

-- ---- the whole

module _ {V A : Type 0} (K : VolumeKeeper V) where
  -- a runtime with these cells begins over this volume: these are its passes, of clients that have made no call, each with the origin of
  -- its application
  pub record BeginsOver (hosts : List (Host A)) (seed : List ℕ) (places : Places) (passes : List (PassView V A)) (volume : V) : Type 0 where
    pub cells : length places.cells ≡ length hosts
    pub passes_are : passes ≡ all_fresh 0 places.cells (origins_of K places.storage (length hosts) volume seed 0 hosts)
    pub all : ArePasses places passes

-- of a board, Honest says that it keeps to the rules of boards, and view how it is seen; Stays names blocks that the volume never writes
module _ {B V : Type 0} (K : VolumeKeeper V) (form : Form) (Stays : ℕ → Type 0) (Honest : B → Type 0) (view : B → View) (board_of : V → B) where
  -- the board was opened to this volume by calls of which none failed
  pub record IsOpenedOn (board : B) (apps : ℕ) (volume : V) : Type 0 where
    pub calls : CallRun true (view board) (view (board_of volume))
    pub honest : Honest board → Honest (board_of volume) × OpensHonestly Stays (K.held volume).sequence (view board) (view (board_of volume))
    -- where it was honest, at rest and of a sound image for so many hosts, the mark is set, and each region has the store of the image
    pub sound : Honest board → (n : ℕ) (h : Held) (stores : ℕ → Store) → Rests n (view board).state → form.blocks ≤ (view board).size
        → IsSoundFor form (view board) n h apps stores
        → IsMarked K (Opened apps volume) × ((app : ℕ) → app < apps → store_in app (K.held volume) ≡ stores app) × LeavesOpening form h (view board) (view (board_of volume))

  -- the board was opened so, and comes back since there was no memory for cells: it is that of a volume which came back
  pub record ComesOut (A : Type 0) (board : B) (apps : ℕ) (why : OpenAnswer) (back : B) : Type 0 where
    pub why_is : why ≡ answers.NoMemory
    pub opened : V
    pub on : IsOpenedOn board apps opened
    pub volume : V
    pub board_is : board_of volume ≡ back
    pub comes : ComesBackOpened K A apps opened volume
