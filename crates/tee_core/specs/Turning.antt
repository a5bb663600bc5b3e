-- A turn of one application over a region of a volume.
use Rattle.app_api.specs.Behaviours.{Behaviour}
use Rattle.std.specs.Prelude.{ℕ, ◌≡◌, ◌<◌, ◌⊎◌, IsTrue, List, Option, Some}
use Rattle.alone.specs.declared.reply.Reply.{Reply}
use Rattle.alone.specs.declared.turn.TurnKind.{TurnKind}
use Rattle.alone.specs.declared.turn.TurnKind.TheVariants as kinds
use Rattle.app_side.specs.Serving.{IsTurn}
use Rattle.app_side.specs.declared.side.AppSide.{AppSide}
use Rattle.object_dir.specs.KeptDirs.{kept_keeper}
use Rattle.object_dir.specs.Regions.{in_use}
use Rattle.object_dir.specs.declared.kept_dir.KeptDir.{KeptDir}
use Rattle.region_plan.specs.declared.directory.Directory.{Directory}
use Rattle.region_plan.specs.Regions.{breaks}
use Rattle.store_api.specs.Volumes.{VolumeKeeper}
use Rattle.store_api.specs.declared.answer.Mismatch.{Mismatch}

-- the store of a region of a volume that is this, which keeps this directory, if it keeps one
pub record IsOver {V : Type 0} (region : ℕ) (volume : V) (kept : Option Directory) (dir : KeptDir V) : Type 0 where
  pub same_volume : dir.region.volume.now ≡ volume
  pub same_region : dir.region.number ≡ region
  pub same_kept : dir.kept ≡ kept

module _ {V : Type 0} (K : VolumeKeeper V) where
  -- a region of the volume is damaged: two tags differ on the way to a leaf of it, or a leaf of it breaks a rule
  abbrev pub HasDamage : ℕ → V → Type 0
  HasDamage region volume =
      ((leaf : ℕ) × (leaf < K.leaves) × (tags : Mismatch) × (K.damage volume region leaf ≡ Some tags))
      ⊎ ((leaf : ℕ) × (leaf < in_use.leaves) × IsTrue (breaks in_use (K.text volume region) leaf))

  -- a turn that met damage met some that there is in its region, where what reads give is known
  abbrev pub MeetsDamage : ℕ → TurnKind → V → Type 0
  MeetsDamage region kinds.Plain volume = Unit {0}
  MeetsDamage region (kinds.Lost changes) volume = Unit {0}
  MeetsDamage region kinds.Starved volume = Unit {0}
  MeetsDamage region kinds.Corrupted volume = IsTrue K.tells_reads → HasDamage region volume

  -- a turn over the store of a region of the volume, which takes up one directory of it, if one was kept, and leaves another
  pub record TurnsOver {A : Type 0} (behaviour : Behaviour A) (region instance : ℕ) (kind : TurnKind) (replies : List Reply) (before after : AppSide A)
      (taken kept : Option Directory) (old new : V) : Type 0 where
    pub dir_before : KeptDir V
    pub dir_after : KeptDir V
    pub over_old : IsOver region old taken dir_before
    pub over_new : IsOver region new kept dir_after
    pub turn : IsTurn (kept_keeper K) behaviour instance kind replies before after dir_before dir_after
