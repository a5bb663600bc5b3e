-- A turn of one application over the storage, with its entry.
use Rattle.app_api.specs.Behaviours.{Behaviour}
use Rattle.std.specs.Prelude.{ℕ, ◌≡◌, ◌≤◌, ◌⊎◌, List, [], ◌∷◌, ◌++◌, Option, Bool, true, length}
use Rattle.alone.specs.declared.reply.Reply.{Reply}
use Rattle.alone.specs.declared.reply.TheConstants.{REPLIES}
use Rattle.alone.specs.declared.turn.TurnKind.{TurnKind}
use Rattle.alone.specs.Logs.{Adds, KeptLog, Logged, entry}
use Rattle.alone.specs.Step.{Event, Lost}
use Rattle.app_side.specs.Represents.{event_of}
use Rattle.app_side.specs.declared.side.AppSide.{AppSide}
use Rattle.region_plan.specs.declared.directory.Directory.{Directory}
use Rattle.store_api.specs.Volumes.{VolumeKeeper}
use Rattle.tee_core.specs.Turning.{TurnsOver}
use Rattle.tee_base.specs.Words.{InstanceNumber}

-- the log has this entry more, for which there was room
pub record IsPushed (client : ℕ) (kind : TurnKind) (instance : InstanceNumber) (replies : List Reply) (old new : KeptLog) : Type 0 where
  pub more : new.entries ≡ old.entries ++ entry client (event_of kind instance) replies ∷ []
  pub room : new.room ≡ old.room
  pub reply_room : new.reply_room ≡ old.reply_room

-- a turn over the region of the application, and its entry with its replies
pub record TurnsLogged {V A : Type 0} (K : VolumeKeeper V) (behaviour : Behaviour A) (app client instance : ℕ) (kind : TurnKind)
    (before after : AppSide A) (old_log new_log : KeptLog) (taken kept : Option Directory) (old new : V) : Type 0 where
  pub replies : List Reply
  pub few : length replies ≤ REPLIES
  pub turn : TurnsOver K behaviour app instance kind replies before after taken kept old new
  pub logged : IsPushed client kind instance replies old_log new_log

-- the log has the entry of a turn more. Right before it stands that of a loss, if one was found now; and one is found only where the
-- storage was lost before
pub record MakesTurnOver (lost : Bool) (client : ℕ) (event : Event) (old new : List Logged) : Type 0 where
  pub before : List Logged
  pub found : (before ≡ old) ⊎ ((lost ≡ true) × (before ≡ old ++ entry client Lost [] ∷ []))
  pub adds : Adds client event before new

-- the same, where it isn't told whether the storage was lost
abbrev pub MakesTurn : ℕ → Event → List Logged → List Logged → Type 0
MakesTurn client event old new = (lost : Bool) × MakesTurnOver lost client event old new
