-- The cells of the runtime, as they are kept.
use Rattle.std.specs.Prelude.{ℕ, ◌≡◌, ◌<◌, ◌≤◌, List, [], Some, length, map, slice_get}
use Rattle.tee_base.specs.declared.limits.TheConstants.{MAX_HOSTS}
use Rattle.turn_cell.specs.Words.{cell_id, name_of, original_parts}
use Rattle.turn_cell.specs.declared.cell.TurnCell.{TurnCell}
use Rattle.alone.specs.Logs.{KeptLog}
use Rattle.shared_parts.specs.HostedApps.{ClientPart, HostedEvent, HostedView, parts_for}
use Rattle.shared_parts.specs.InStep.{StoragePart}
use Rattle.shared_parts.specs.StorageParts.{StorageEntry, StorageView}
use Rattle.shared_tee.specs.Passes.{Places}
use Rattle.shared_tee.specs.declared.names.TheConstants.{STORAGE_CELL}

module _ {V A : Type 0} where
  -- the value of the cell has a part for each of eight clients
  abbrev pub HasEightParts : TurnCell (HostedView V A) ClientPart (HostedEvent V A) → Type 0
  HasEightParts c = length (original_parts (λ h. parts_for h.log 0 h.misses) c) ≡ 8

  -- so do those of all of these
  abbrev pub HaveEightParts : List (TurnCell (HostedView V A) ClientPart (HostedEvent V A)) → Type 0
  HaveEightParts cells = (app : ℕ) (c : TurnCell (HostedView V A) ClientPart (HostedEvent V A)) → slice_get cells app ≡ Some c → HasEightParts c

  -- what is seen of these cells
  abbrev pub places_of : List (TurnCell (HostedView V A) ClientPart (HostedEvent V A)) → TurnCell (StorageView V) StoragePart (StorageEntry V) → Places
  places_of cells storage = record { cells = map (λ c. cell_id c) cells; storage = cell_id storage }

  -- an application's cell is named by its place, and its value has a part for each of eight clients
  pub record IsAppCell (app : ℕ) (c : TurnCell (HostedView V A) ClientPart (HostedEvent V A)) : Type 0 where
    pub name : name_of c ≡ app
    pub eight : HasEightParts c

  -- there is such a cell for each application, and one for the storage, whose value has a part for each of them
  pub record IsShared (cells : List (TurnCell (HostedView V A) ClientPart (HostedEvent V A))) (storage : TurnCell (StorageView V) StoragePart (StorageEntry V)) (logs : List KeptLog)
      (log_room : ℕ) : Type 0 where
    pub some : 0 < length cells
    pub few : length cells ≤ MAX_HOSTS
    pub each : (app : ℕ) (c : TurnCell (HostedView V A) ClientPart (HostedEvent V A)) → slice_get cells app ≡ Some c → IsAppCell app c
    pub name : name_of storage ≡ STORAGE_CELL
    pub parts : length (original_parts (λ s. s.parts) storage) ≡ length cells
    -- no log is there yet, and there is room for one of each application
    pub none : logs ≡ []
    pub room : length cells ≤ log_room
