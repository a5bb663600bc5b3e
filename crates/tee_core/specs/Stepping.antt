-- What an event of an application leaves of the value, and what an order of the board does: of each world that it represents, of the
-- board, and of the other applications.
use Rattle.app_api.specs.Behaviours.{Behaviour}
use Rattle.std.specs.Prelude.{ℕ, ◌≡◌, ◌≢◌, ◌∷◌, false, true, Option, Some, nat_lt, slice_get}
use Rattle.alone.specs.declared.power.Power.{Power}
use Rattle.alone.specs.declared.turn.TurnKind.{TurnKind}
use Rattle.alone.specs.Machine.{Machine}
use Rattle.alone.specs.Step.{is_enabled}
use Rattle.board.specs.Moment.{Order, View}
use Rattle.epoch.specs.Finding.{sequence_of}
use Rattle.epoch.specs.Forms.{Form, Root}
use Rattle.epoch.specs.Mounts.{TakesUp}
use Rattle.epoch.specs.Reopening.{reopened_of}
use Rattle.epoch.specs.declared.header.Header.{Header}
use Rattle.epoch.specs.declared.mounts.TheConstants.{BLANK}
use Rattle.store_api.specs.declared.volume.Volume.{Ghosts}
use Rattle.tee_core.specs.Moments.{IsSound, IsWithin, KeepsCounts, OrderLeavesStores}
use Rattle.tee_core.specs.Powers.{IsTold, after_power, told_of}
use Rattle.tee_core.specs.Represents.{app_count, boots_of, doubt_of, turns_made, volume_of, Represents}
use Rattle.tee_core.specs.Turning.{MeetsDamage}
use Rattle.tee_core.specs.World.{AppEvent, World, world_step}
use Rattle.tee_core.specs.declared.tee.TeeOver.{TeeOver}

-- the other applications make no turn, no application comes or goes, and the power wasn't lost
pub record KeepsOthers {B V A : Type 0} {G : Ghosts V} (app : ℕ) (old new : TeeOver B V A G) : Type 0 where
  pub apps : app_count new ≡ app_count old
  pub others : (other : ℕ) → other ≢ app → turns_made new other ≡ turns_made old other
  pub boots : boots_of new ≡ boots_of old

-- an event that went with this kind was made
pub record MakesEvent {B V A : Type 0} {G : Ghosts V} (behaviour : Behaviour A) (e : AppEvent) (kind : TurnKind) (old new : TeeOver B V A G) : Type 0 where
  -- it is one event of every world that the value represents, may stand there, and meets no damage
  pub world : (world : World A) → Represents old world → Represents new (world_step behaviour world e)
  pub stands : (world : World A) (m : Machine A) → Represents old world → slice_get world e.app ≡ Some m → is_enabled m e.event ≡ true
  pub sound : (world : World A) → Represents old world → IsSound kind
  -- a crash within it leaves the stores of the world before it or after it
  pub moments : (world : World A) → Represents old world → IsWithin G.keeper world (world_step behaviour world e) (volume_of old) (volume_of new)
  -- whatever the board: what damage it met, how often it failed, and that no order is made; and what the volume stands on stays honest
  pub damage : MeetsDamage G.keeper e.app kind (volume_of new)
  pub counts : KeepsCounts kind (G.keeper.condition (volume_of old)) (G.keeper.condition (volume_of new))
  pub below : G.keeper.honest_below (volume_of old) → G.keeper.honest_below (volume_of new)

-- values that were just made: so many applications, none of which has made a turn, and no power was lost
pub record HasBegun {B V A : Type 0} {G : Ghosts V} (count : ℕ) (tee : TeeOver B V A G) : Type 0 where
  pub apps : app_count tee ≡ count
  pub turns : (app : ℕ) → turns_made tee app ≡ 0
  pub boots : boots_of tee ≡ 0

-- no application makes a turn, comes or goes
pub record KeepsTurns {B V A : Type 0} {G : Ghosts V} (old new : TeeOver B V A G) : Type 0 where
  pub apps : app_count new ≡ app_count old
  pub turns : (app : ℕ) → turns_made new app ≡ turns_made old app

-- the power was lost and came back, of which this was told: the value represents the world in which every machine began anew, what was
-- told is so by the sequences, right behind the order itself a crash leaves the stores of that world; no block was written, and each reads as the
-- order left it
pub record Restarts {B V A : Type 0} {G : Ghosts V} (behaviour : Behaviour A) (form : Form) (before after : View) (start : World A) (tells : Power) (old new : TeeOver B V A G)
    : Type 0 where
  pub world : Represents new (after_power behaviour start tells)
  pub told : IsTold tells start (G.keeper.held (volume_of old)).sequence (G.keeper.held (volume_of new)).sequence
  pub left : OrderLeavesStores form before after (after_power behaviour start tells)
  pub unwritten : after.writes ≡ before.writes
  pub reads : (order : Order) → after.ordered ≡ order ∷ before.ordered → after.state.reads ≡ order.after.reads

-- the power came back over a board on which this header counts, whatever its image: the volume takes up the header; of the change in
-- doubt this was told, which is kept exactly where the sequence of the header is greater than the last acknowledged one; where nothing was
-- taken over no block was written, and each reads as the order left it
pub record ComesBack {B V A : Type 0} {G : Ghosts V} (form : Form) (root : Root) (before after : View) (old new : TeeOver B V A G) (tells : Power)
    (header : Option Header) : Type 0 where
  pub taken : TakesUp form header BLANK (G.keeper.held (volume_of new)).sequence root
  pub told : tells ≡ told_of (doubt_of old) (nat_lt (G.keeper.held (volume_of old)).sequence (sequence_of header))
  pub unwritten : (reopened_of form.version header).rewritten ≡ false → after.writes ≡ before.writes
  pub reads : (reopened_of form.version header).rewritten ≡ false
      → (order : Order) → after.ordered ≡ order ∷ before.ordered → after.state.reads ≡ order.after.reads
