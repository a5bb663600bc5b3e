-- What a crash leaves within an event, and what an event leaves of the board's counts.
use Rattle.std.specs.Prelude.{ℕ, ◌≡◌, ◌≤◌, ◌⊎◌, Bool, true, false, List, ◌∷◌, Option}
use Rattle.std.specs.List.{AllByRecursion, list_any}
use Rattle.tee_base.specs.Faults.{Rose}
use Rattle.alone.specs.Marks.{Marks}
use Rattle.alone.specs.declared.turn.TurnKind.{TurnKind}
use Rattle.alone.specs.declared.turn.TurnKind.TheVariants as kinds
use Rattle.board.specs.Moment.{CrashImage, IsLeft, Moment, Order, View}
use Rattle.epoch.specs.Forms.{Form, held_of}
use Rattle.store_api.specs.Volumes.{Condition, Held, VolumeKeeper}
use Rattle.tee_core.specs.Happenings.{is_lost_turn}
use Rattle.tee_core.specs.Represents.{HasStoresOf}
use Rattle.tee_core.specs.declared.happened.Happened.{Happened}
use Rattle.tee_core.specs.World.{World}
use Rattle.tee_base.specs.Words.{Key}

-- a turn that lost the storage did so by a failure of what the volume stands on
abbrev pub RoseIfLost : TurnKind → ℕ → ℕ → Type 0
RoseIfLost kinds.Plain old new = Unit {0}
RoseIfLost (kinds.Lost change) old new = Rose old new
RoseIfLost kinds.Starved old new = Unit {0}
RoseIfLost kinds.Corrupted old new = Unit {0}

-- a turn of this kind met no damage
abbrev pub IsSound : TurnKind → Type 0
IsSound kinds.Plain = Unit {0}
IsSound (kinds.Lost change) = Unit {0}
IsSound kinds.Starved = Unit {0}
IsSound kinds.Corrupted = ⊥

-- what an event of this kind leaves of the counts: the count of faults doesn't fall, and rose where the storage was lost; the volume
-- stands where it stood, with no order made
pub record KeepsCounts (kind : TurnKind) (old new : Condition) : Type 0 where
  pub faults : old.faults ≤ new.faults
  pub rose : RoseIfLost kind old.faults new.faults
  pub foundation : new.foundation ≡ old.foundation

-- the same of events of which just this was told: it rose where one of them lost the storage
pub record KeepsFoundation (old new : Condition) : Type 0 where
  pub faults : old.faults ≤ new.faults
  pub foundation : new.foundation ≡ old.foundation

-- a turn that lost the storage was told
abbrev pub tells_loss : List Happened → Bool
tells_loss told = list_any (λ h. is_lost_turn h.kind) told

-- where a turn was told that lost the storage, the count of faults rose
abbrev pub HasRun : List Happened → Condition → Condition → Type 0
HasRun told old new = tells_loss told ≡ true → Rose old.faults new.faults

-- the same of what is told behind what was told before
abbrev pub HasRunBehind : List Happened → List Happened → Condition → Condition → Type 0
HasRunBehind before told old new = tells_loss before ≡ false → tells_loss told ≡ true → Rose old.faults new.faults

-- no turn was told that met damage
abbrev pub TellsNoDamage : List Happened → Type 0
TellsNoDamage told = AllByRecursion (λ h. IsSound h.kind) told

-- no turn is marked as one that met damage, and where one is marked as lost, the count of faults rose
pub record AreMarkedSoundly (marks : Marks) (old new : Condition) : Type 0 where
  pub sound : (turn : ℕ) → marks.corrupt turn ≡ false
  pub rose : (turn : ℕ) → marks.lost turn ≡ true → Rose old.faults new.faults

-- each image and counter that a crash at this moment of a board may leave opens to the stores of the world, with the change in doubt or
-- without it
abbrev pub LeavesStoresAt : {A : Type 0} → Form → Key → Moment → World A → Type 0
LeavesStoresAt form key m world = (c : CrashImage) → IsLeft m c → HasStoresOf world (held_of form key c)

-- so it is right behind the last order that was made to the board
abbrev pub OrderLeavesStores : {A : Type 0} → Form → View → View → World A → Type 0
OrderLeavesStores form old new world =
    (order : Order) → new.ordered ≡ order ∷ old.ordered → LeavesStoresAt form old.key order.after world

module _ {V : Type 0} (K : VolumeKeeper V) where
  -- the volume stands where it stood, its count of faults didn't fall, and what it stands on stays honest
  pub record StaysOn (old new : V) : Type 0 where
    pub foundation : KeepsFoundation (K.condition old) (K.condition new)
    pub below : K.honest_below old → K.honest_below new

  -- a crash at any moment since the old value leaves the stores of one world or of the other, each with its change in doubt or without it
  pub record IsWithin {A : Type 0} (before after : World A) (old new : V) : Type 0 where
    pub later : K.moment old ≤ K.moment new
    pub each : (o : Option Held) → K.left_since new (K.moment old) o → HasStoresOf before o ⊎ HasStoresOf after o
