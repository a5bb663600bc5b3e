-- The passes of an application that has just begun.
use Rattle.std.specs.Prelude.{ℕ, zero, suc, ◌+◌, List, [], ◌∷◌}
use lib.ListN.{replicate}
use Rattle.turn_cell.specs.View.{opening_view}
use Rattle.turn_cell.specs.Words.{TableId}
use Rattle.turn_cell.specs.declared.view.SeatView.{SeatView}
use Rattle.shared_parts.specs.HostedApps.{ClientPart, HostedEvent, Origin, no_client, trail_with}
use Rattle.shared_tee.specs.Passes.{PassView}

module _ {V A : Type 0} where
  -- a seat that owns so many parts from this one on, of clients that did nothing, and knows the origin alone
  abbrev pub fresh_seat : Origin V A → ℕ → ℕ → SeatView ClientPart (HostedEvent V A)
  fresh_seat origin first count = record (opening_view (replicate count no_client) (trail_with origin [])) { first = first }

  -- the pass of a client that has made no call
  abbrev pub fresh_pass : TableId → Origin V A → ℕ → ℕ → PassView V A
  fresh_pass cell origin app client = record { app = app; client = client; calls = 0; cell = cell; seat = fresh_seat origin client 1 }

  -- those of so many clients, from this one on
  abbrev pub fresh_passes : TableId → Origin V A → ℕ → ℕ → ℕ → List (PassView V A)
  fresh_passes cell origin app client zero = []
  fresh_passes cell origin app client (suc count) = fresh_pass cell origin app client ∷ fresh_passes cell origin app (client + 1) count
