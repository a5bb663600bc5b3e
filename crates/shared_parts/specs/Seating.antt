-- An application whose seat of the storage's cell is out for a while.
use Rattle.app_api.specs.Behaviours.{Behaviour}
use Rattle.std.specs.Prelude.{◌≡◌}
use mathlib.Core.List.{IsPrefix}
use Rattle.turn_cell.specs.Words.{TableId}
use Rattle.turn_cell.specs.declared.view.SeatView.{SeatView}
use Rattle.turn_cell.specs.declared.view.Turn.TheVariants.{Free}
use Rattle.store_api.specs.Volumes.{VolumeKeeper}
use Rattle.shared_parts.specs.HostedApps.{HostedView, IsHosted, origin_of}
use Rattle.shared_parts.specs.InStep.{StoragePart}
use Rattle.shared_parts.specs.StorageParts.{StorageEntry}
use Rattle.shared_parts.specs.declared.unseated.UnseatedApp.{UnseatedApp}

module _ {V A : Type 0} where
  -- what is seen of it with a seat of this cell that knows this
  abbrev pub seated_view : UnseatedApp A → TableId → SeatView StoragePart (StorageEntry V) → HostedView V A
  seated_view u storage v = record { origin = origin_of storage v u.start.value; log = u.recorded.value.log.entries; misses = u.misses }

-- behaviour has the application's two stated functions
module _ {V A : Type 0} (K : VolumeKeeper V) (behaviour : Behaviour A) where
  -- with such a seat it is as its type keeps it
  abbrev pub FitsSeat : UnseatedApp A → TableId → SeatView StoragePart (StorageEntry V) → Type 0
  FitsSeat u storage v = IsHosted K behaviour u.app u.recorded.value.side u.recorded.value.log storage v u.start.value u.misses

module _ {V : Type 0} where
  -- a seat that is free again knows no less of the trail, and its part and what it missed are as they were
  pub record LearnsMore (v w : SeatView StoragePart (StorageEntry V)) : Type 0 where
    pub free : w.turn ≡ Free
    pub first : w.first ≡ v.first
    pub own : w.own ≡ v.own
    pub original : w.original ≡ v.original
    pub misses : w.misses ≡ v.misses
    pub missed_word : w.missed_word ≡ v.missed_word
    pub trail : IsPrefix v.trail w.trail
