-- The objects of a region as a store.
use Rattle.std.specs.Prelude.{ℕ, ◌≡◌, ◌<◌, Option, Some, IsTrue}
use Rattle.tee_base.specs.Crash.{read_as}
use Rattle.store_api.specs.declared.answer.StoreAnswer.{StoreAnswer}
use Rattle.store_api.specs.declared.answer.StoreAnswer.TheVariants.{Corrupt, Garbled}
use Rattle.store_api.specs.Keeping.{Keeper, Status}
use Rattle.store_api.specs.Volumes.{Condition, VolumeKeeper}
use Rattle.region_plan.specs.Reading.{IsBroken}
use Rattle.object_dir.specs.Regions.{in_use, HasStore, kept_in, number_of, region_keeper, remains_in}
use Rattle.object_dir.specs.declared.region.Region.{Region}
use Rattle.object_dir.specs.declared.directory.ObjectDir.{ObjectDir}

-- how often a refusal tells of damage
abbrev pub damage_reports : Option StoreAnswer → ℕ
damage_reports (Some (Corrupt tags)) = 1
damage_reports (Some (Garbled leaf)) = 1
damage_reports _ = 0

-- what is known of a store over a region of this condition
abbrev pub status_with : Condition → ℕ → ℕ → Status
status_with c reports attempts =
    record { lost = c.lost; faults = c.faults; foundation = c.foundation; damage_reports = reports; change_attempts = attempts }

module _ {V : Type 0} (K : VolumeKeeper V) where
  -- what there is for an answer of damage to tell: two tags that differ on the way to a leaf of the region, or a leaf that breaks a
  -- rule; another answer tells of none
  abbrev pub damage_of : Region V → StoreAnswer → Type 0
  damage_of r (Corrupt tags) = IsTrue K.tells_reads → (leaf : ℕ) × (leaf < K.leaves) × (K.damage r.volume.now r.number leaf ≡ Some tags)
  damage_of r (Garbled leaf) = IsBroken (region_keeper K) number_of in_use r leaf
  damage_of r _ = ⊥

  -- the objects of a region as a store: there is one where the volume is honest and the region stands for one, its rest is all other
  -- regions, its counts are the volume's, it is lost where the volume is, and it stands where the region stands
  abbrev pub dir_keeper : Keeper (ObjectDir V)
  dir_keeper = record {
    has_model = λ d. HasStore K d.region;
    contents = λ d. kept_in K d.region;
    status = λ d. status_with ((region_keeper K).condition d.region) d.damage_reports d.change_attempts;
    honest_below = λ d. K.honest_below d.region.volume.now;
    honest = λ d. HasStore K d.region;
    damage = λ d. damage_of d.region;
    moment = λ d. K.moment d.region.volume.now;
    left_since = λ d. read_as (remains_in d.region.number) (K.left_since d.region.volume.now);
  }

-- the store of a region of a volume that is this
pub record IsOver {V : Type 0} (region : ℕ) (volume : V) (dir : ObjectDir V) : Type 0 where
  pub same_volume : dir.region.volume.now ≡ volume
  pub same_region : dir.region.number ≡ region
