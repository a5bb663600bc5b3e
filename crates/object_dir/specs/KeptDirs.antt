-- The objects of a region as a store that keeps the region's directory.
use Rattle.tee_base.specs.Crash.{read_as}
use Rattle.store_api.specs.Keeping.{Keeper}
use Rattle.store_api.specs.Volumes.{VolumeKeeper}
use Rattle.object_dir.specs.Directories.{damage_of, status_with}
use Rattle.object_dir.specs.Kept.{IsHeld}
use Rattle.object_dir.specs.Regions.{HasStore, kept_in, region_keeper, remains_in}
use Rattle.object_dir.specs.declared.kept_dir.KeptDir.{KeptDir}

module _ {V : Type 0} (K : VolumeKeeper V) where
  -- a region stands for a store, and the directory that is kept, if one is, is that of its leaves as they are held
  pub record HasObjects (d : KeptDir V) : Type 0 where
    pub store : HasStore K d.region
    pub right : IsHeld ((K.held d.region.volume.now).leaves d.region.number) d.kept

  -- the objects of a region as a store: as without a directory, where the one that is kept is right
  abbrev pub kept_keeper : Keeper (KeptDir V)
  kept_keeper = record {
    has_model = λ d. HasObjects d;
    contents = λ d. kept_in K d.region;
    status = λ d. status_with ((region_keeper K).condition d.region) d.damage_reports d.change_attempts;
    honest_below = λ d. K.honest_below d.region.volume.now;
    honest = λ d. HasObjects d;
    damage = λ d. damage_of K d.region;
    moment = λ d. K.moment d.region.volume.now;
    left_since = λ d. read_as (remains_in d.region.number) (K.left_since d.region.volume.now);
  }
