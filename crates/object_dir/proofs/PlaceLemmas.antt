-- What is known of the place where a region stands: the reference to its volume, its number, and what its volume stands on.
use Rattle.std.proofs.Common.{◌≡◌, ℕ, List, [], ◌∷◌, ap}
use Rattle.store_api.specs.Foundations.{Foundation}
use Rattle.store_api.specs.Volumes.{VolumeKeeper}
use Rattle.object_dir.specs.Regions.{region_keeper}
use Rattle.object_dir.specs.declared.region.Region.{Region}

abbrev first_of : List ℕ → ℕ
first_of [] = 0
first_of (number ∷ numbers) = number

abbrev behind_first : List ℕ → List ℕ
behind_first [] = []
behind_first (number ∷ numbers) = numbers

abbrev volume_part : Foundation → Foundation
volume_part f = record { place = behind_first (behind_first f.place); orders = f.orders; ordered = f.ordered }

module _ {V : Type 0} (K : VolumeKeeper V) (old new : Region V) (same : ((region_keeper K).condition new).foundation ≡ ((region_keeper K).condition old).foundation) where
  pub same_reference : new.volume.ghost_name ≡ old.volume.ghost_name
  same_reference = ap (λ (f : Foundation). first_of f.place) same

  pub same_number : new.number ≡ old.number
  same_number = ap (λ (f : Foundation). first_of (behind_first f.place)) same

  pub volume_stays : (K.condition new.volume.now).foundation ≡ (K.condition old.volume.now).foundation
  volume_stays = ap volume_part same
