-- How the runtime ends: which passes come back, and what the logs and the board are then.
use Rattle.app_api.specs.Behaviours.{Behaviour}
use Rattle.std.specs.Prelude.{ℕ, ◌≡◌, ◌<◌, ◌≤◌, ◌+◌, ◌*◌, true, List, Some, length, map, slice_get}
use mathlib.Core.List.{IsPrefix}
use Rattle.turn_cell.specs.Words.{TableId}
use Rattle.turn_cell.specs.declared.view.SeatView.{SeatView}
use Rattle.turn_cell.specs.declared.view.Turn.TheVariants.{Free}
use Rattle.tee_base.specs.Faults.{Rose}
use Rattle.board.specs.Moment.{View}
use Rattle.epoch.specs.Forms.{Form}
use Rattle.store_api.specs.Volumes.{VolumeKeeper}
use Rattle.alone.specs.Logs.{IsLegal, KeptLog, entries_by, machine_by}
use Rattle.tee_core.specs.Moments.{KeepsFoundation, LeavesStoresAt}
use Rattle.tee_core.specs.World.{World}
use Rattle.shared_parts.specs.HostedApps.{AreOfClients, HostedView, tells_loss, trail_with}
use Rattle.shared_parts.specs.InStep.{StoragePart, part_of}
use Rattle.shared_parts.specs.StorageParts.{IsMarked, IsStoredFor, Opened, StorageEntry, first_of, is_lost_at}
use Rattle.shared_tee.specs.Passes.{IsPassOf, PassView, Places, origin_in, log_of, own_of}

-- ---- which passes come back

module _ {V A : Type 0} where
  -- these are all passes of the runtime with these cells, by application and then by client, of whom each application has eight
  pub record ArePasses (places : Places) (passes : List (PassView V A)) : Type 0 where
    pub all : length passes ≡ 8 * length places.cells
    pub each : (i : ℕ) (p : PassView V A) → slice_get passes i ≡ Some p → IsPassOf places p × (p.client < 8) × (i ≡ 8 * p.app + p.client)

  -- the next eight are those of the clients of this cell
  abbrev pub AreNext : TableId → List (PassView V A) → Type 0
  AreNext cell passes = (i : ℕ) → i < 8 → (p : PassView V A) × (slice_get passes i ≡ Some p) × (p.cell ≡ cell) × (p.client ≡ i)

-- ---- how an application ends

-- behaviour has the applications' two stated functions
module _ {V A : Type 0} (behaviour : Behaviour A) where
  -- the machines to which the logs led
  abbrev pub machines_ended : List (HostedView V A) → World A
  machines_ended ends = map (λ h. machine_by behaviour h.origin.machine h.log) ends

  -- their parts of the storage
  abbrev pub parts_ended : List (HostedView V A) → List StoragePart
  parts_ended ends = map (λ m. part_of m) (machines_ended ends)

-- behaviour has the applications' two stated functions
module _ {V A : Type 0} (K : VolumeKeeper V) (behaviour : Behaviour A) where
  -- an application over a storage that was opened so ended so, as one of its passes may tell: it began where the pass knew it to begin, and
  -- its log goes on from the one that the pass knew. Of the pass's client the log has what the pass made, each entry once and in order. Those
  -- are the entries of that client that the pass knew. The log has no entry of another client than the eight. Where the mark is set it is legal
  -- from the origin's machine on
  pub record EndsFor (opened : StorageEntry V) (p : PassView V A) (h : HostedView V A) : Type 0 where
    pub origin : origin_in p.seat.trail ≡ Some h.origin
    pub opened_is : h.origin.opened ≡ opened
    pub trail : IsPrefix p.seat.trail (trail_with h.origin h.log)
    pub made : (own_of p).made ≡ entries_by p.client h.log
    pub own : entries_by p.client h.log ≡ entries_by p.client (log_of p)
    pub clients : AreOfClients h.log
    pub legal : IsMarked K opened → IsLegal behaviour h.origin.machine h.log

  -- as each of these passes may tell, the application of its place ended so
  abbrev pub EndForEach : StorageEntry V → List (PassView V A) → List (HostedView V A) → Type 0
  EndForEach opened passes ends =
      (i : ℕ) (p : PassView V A) → slice_get passes i ≡ Some p → (h : HostedView V A) × (slice_get ends p.app ≡ Some h) × EndsFor opened p h

  -- the applications of these passes ended so, and these are their logs. A seat with their parts of the storage knows how that was opened,
  -- and of its loss where a log tells of one
  pub record HaveEnded (passes : List (PassView V A)) (ends : List (HostedView V A)) (logs : List KeptLog) (v : SeatView StoragePart (StorageEntry V)) : Type 0 where
    pub logs_are : map (λ h. h.log) ends ≡ map (λ log. log.entries) logs
    pub each : EndForEach (first_of v.trail) passes ends
    pub free : v.turn ≡ Free
    pub first : v.first ≡ 0
    pub size : length v.own ≡ length ends
    pub began : 0 < length v.trail
    pub told : (app : ℕ) (h : HostedView V A) → slice_get ends app ≡ Some h → tells_loss h.log ≡ true → is_lost_at v.trail ≡ true
    pub parts : IsMarked K (first_of v.trail) → v.own ≡ parts_ended behaviour ends

-- ---- how all of it ends

-- behaviour has the applications' two stated functions
module _ {V A : Type 0} (K : VolumeKeeper V) (behaviour : Behaviour A) where
  -- so many applications ended so, in the order of the hosts. These are their logs, and this is the volume
  pub record Ends (apps : ℕ) (passes : List (PassView V A)) (logs : List KeptLog) (volume : V) : Type 0 where
    pub ends : List (HostedView V A)
    pub count : length ends ≡ apps
    pub logs_are : map (λ h. h.log) ends ≡ map (λ log. log.entries) logs
    -- the volume as it was opened, of which the origin of each pass tells
    pub began : V
    pub each : EndForEach K behaviour (Opened apps began) passes ends
    -- its count of faults didn't fall since then, and rose where a log tells of a loss; it stands where it stood, with no order made
    pub since : KeepsFoundation (K.condition began) (K.condition volume)
    -- what it stands on is honest, if it was then
    pub below : K.honest_below began → K.honest_below volume
    pub rose : (app : ℕ) (h : HostedView V A) → slice_get ends app ≡ Some h → tells_loss h.log ≡ true → Rose (K.condition began).faults (K.condition volume).faults
    -- where the mark is set, each thing that a crash may leave of it has the stores of the machines to which the logs led, where a change in
    -- doubt may stand in its owner's place
    pub stored : IsMarked K (Opened apps began) → IsStoredFor K A (parts_ended behaviour ends) volume

  -- the same, and what it is for the board on which the volume stands
  pub record EndsOn {B : Type 0} (form : Form) (Honest : B → Type 0) (view : B → View) (board_of : V → B) (apps : ℕ) (passes : List (PassView V A)) (logs : List KeptLog) (board : B) : Type 0 where
    pub volume : V
    pub board_is : board_of volume ≡ board
    pub over : Ends apps passes logs volume
    -- it is honest, if it was when it was opened
    pub honest : Honest (board_of over.began) → Honest board
    -- its count of faults didn't fall since the opening, and rose where a log tells of a loss
    pub faults : (view (board_of over.began)).state.faults ≤ (view board).state.faults
    pub rose : (app : ℕ) (h : HostedView V A) → slice_get over.ends app ≡ Some h → tells_loss h.log ≡ true
        → Rose (view (board_of over.began)).state.faults (view board).state.faults
    -- it is of its size and under its key, and no order was made to it
    pub size : (view board).size ≡ (view (board_of over.began)).size
    pub key : (view board).key ≡ (view (board_of over.began)).key
    pub orders : (view board).state.orders ≡ (view (board_of over.began)).state.orders
    pub ordered : (view board).ordered ≡ (view (board_of over.began)).ordered
    -- where the mark is set, each image and counter that a crash may leave opens to the stores of the machines to which the logs led, with the
    -- change in doubt or without it
    pub left : IsMarked K (Opened apps over.began) → LeavesStoresAt form (view board).key (view board).state (machines_ended behaviour over.ends)
