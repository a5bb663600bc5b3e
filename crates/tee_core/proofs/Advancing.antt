-- A turn of one of the applications, for all of them.
use Rattle.app_api.specs.Behaviours.{Behaviour}
use Rattle.std.proofs.Common.{◌≡◌, ◌≢◌, ◌<◌, ◌≤◌, ℕ, Bool, true, false, List, Option, Some, get_or, length, set, refl, sym, subst, ◌∙◌, ap}
use Rattle.std.specs.Prelude.{slice_get}
use Rattle.alone.specs.declared.reply.Reply.{Reply}
use Rattle.alone.specs.declared.turn.TurnKind.{TurnKind}
use Rattle.alone.specs.declared.turn.TurnKind.TheVariants as kinds
use Rattle.alone.specs.Machine.{Machine}
use Rattle.alone.specs.Step.{is_changing, is_enabled, step}
use Rattle.app_side.specs.Represents.{Represents as Runs_as, event_of as turn_of, store_kind}
use Rattle.app_side.specs.declared.side.AppSide.{AppSide}
use Rattle.object_asks.specs.Serving.{IsKind, SaysChange}
use Rattle.object_dir.specs.Kept.{IsHeld}
use Rattle.object_dir.specs.KeptDirs.{kept_keeper}
use Rattle.region_plan.specs.declared.directory.Directory.{Directory}
use Rattle.store_api.specs.Keeping.{Status}
use Rattle.store_api.specs.Volumes.{Held, RestsAt, VolumeKeeper}
use Rattle.tee_core.specs.Moments.{IsSound, IsWithin}
use Rattle.tee_core.specs.Powers.{all_lost}
use Rattle.tee_core.specs.Directories.{AreHeld, kept_at}
use Rattle.tee_core.specs.Represents.{StandWith}
use Rattle.tee_core.specs.Sides.{AreLost, AreSides}
use Rattle.tee_core.specs.Turning.{TurnsOver}
use Rattle.tee_core.specs.World.{World, world_step}
use Rattle.tee_core.proofs.SideLemmas.{lost_set, side_at, side_here, sides_set}
use Rattle.tee_core.proofs.Steps.{SaysChanging}
use Rattle.tee_core.proofs.Turning.{after_is, held_after, may, met_no_damage, replies_are, stand_lost, stand_plain, within_turn}

-- the storage is as it was, unless the turn lost it
lost_as_before : (kind : TurnKind) (old new : Status) → IsKind (store_kind kind) old new → ((changes : Bool) → kind ≢ kinds.Lost changes) → new.lost ≡ old.lost
lost_as_before kinds.Plain old new cause served = cause
lost_as_before (kinds.Lost changes) old new cause served = absurd (served changes refl)
lost_as_before kinds.Starved old new cause served = cause
lost_as_before kinds.Corrupted old new cause served = cause.1 ∙ sym cause.0

-- what a turn says of its change
pub says : (kind : TurnKind) (changing : Bool) → SaysChange (store_kind kind) changing → SaysChanging kind changing
says kinds.Plain changing so = tt
says (kinds.Lost changes) changing so = so
says kinds.Starved changing so = tt
says kinds.Corrupted changing so = tt

module _ {V A : Type 0} (K : VolumeKeeper V)
    (rests : (v : V) → K.honest v → (K.condition v).lost ≡ false → RestsAt K v (K.held v))
    (since : (v : V) (t u : ℕ) (o : Option Held) → t ≤ u → K.left_since v u o → K.left_since v t o)
    (behaviour : Behaviour A) (sides : List (AppSide A)) (app i : ℕ) (kind : TurnKind) (replies : List Reply)
    (dirs then_dirs : List (Option Directory)) (taken kept : Option Directory) (before d after : AppSide A) (old new : V) (lt : app < length sides) (value : before ≡ get_or sides app d)
    (held : taken ≡ kept_at dirs app) (own : kept_at then_dirs app ≡ kept) (others : (other : ℕ) → other ≢ app → kept_at then_dirs other ≡ kept_at dirs other)
    (t : TurnsOver K behaviour app i kind replies before after taken kept old new) where
  abbrev Stands : World A → Type 0
  Stands world = StandWith K sides dirs old world

  here_is : (world : World A) (m : Machine A) → Stands world → slice_get world app ≡ Some m → Runs_as before m
  here_is world m whole here = side_here sides world app before d m whole.stand.sides_are lt value here

  right : (world : World A) → Stands world → IsHeld ((K.held old).leaves app) taken
  right world whole = subst (λ (o : Option Directory). IsHeld ((K.held old).leaves app) o) (sym held) (whole.held app)

  pub moved_plain : ((changes : Bool) → kind ≢ kinds.Lost changes) → (world : World A) → Stands world →
      StandWith K (set sides app after) then_dirs new (world_step behaviour world (record { app = app; event = turn_of kind i }))
  moved_plain served world whole =
      let p = side_at sides world app whole.stand.sides_are lt in
      let stands = here_is world p.0 whole p.1 in
      record {
        stand = stand_plain K rests since behaviour sides world app i kind replies before after taken kept old new p.0 p.1 stands whole.stand (right world whole) t served;
        held = held_after K rests since behaviour sides world app i kind replies before after taken kept old new p.0 p.1 stands whole.stand (right world whole) t dirs then_dirs own others whole.held;
      }

  pub moved_lost : (changes : Bool) → kind ≡ kinds.Lost changes → (left : List (AppSide A)) (none : List (Option Directory))
      → ((w : World A) → AreSides (set sides app after) w → AreSides left (all_lost w))
      → AreHeld (K.held new).leaves none → (world : World A) → Stands world → StandWith K left none new (world_step behaviour world (record { app = app; event = turn_of kind i }))
  moved_lost changes is left none all are world whole =
      let p = side_at sides world app whole.stand.sides_are lt in
      let stands = here_is world p.0 whole p.1 in
      let then : Machine A = (step behaviour p.0 (turn_of kind i)).machine in
      let after_stands : Runs_as after then = after_is K rests since behaviour sides world app i kind replies before after taken kept old new p.0 p.1 stands whole.stand (right world whole) t in
      record {
        stand = stand_lost K rests since behaviour sides world app i kind replies before after taken kept old new p.0 p.1 stands whole.stand (right world whole) t changes is left
            (all (set world app then) (sides_set sides world app after then whole.stand.sides_are after_stands));
        held = are;
      }

  pub within_all : (world : World A) → Stands world → IsWithin K world (world_step behaviour world (record { app = app; event = turn_of kind i })) old new
  within_all world whole =
      let p = side_at sides world app whole.stand.sides_are lt in
      within_turn K rests since behaviour sides world app i kind replies before after taken kept old new p.0 p.1 (here_is world p.0 whole p.1) whole.stand (right world whole) t

  pub may_all : (world : World A) (m : Machine A) → Stands world → slice_get world app ≡ Some m → is_enabled m (turn_of kind i) ≡ true
  may_all world m whole here =
      may K rests since behaviour sides world app i kind replies before after taken kept old new m here (here_is world m whole here) whole.stand (right world whole) t

  pub replies_all : (world : World A) (m : Machine A) → Stands world → slice_get world app ≡ Some m → replies ≡ (step behaviour m (turn_of kind i)).replies
  replies_all world m whole here =
      replies_are K rests since behaviour sides world app i kind replies before after taken kept old new m here (here_is world m whole here) whole.stand (right world whole) t

  pub sound_all : (world : World A) → Stands world → IsSound kind
  sound_all world whole =
      let p = side_at sides world app whole.stand.sides_are lt in
      met_no_damage K rests since behaviour sides world app i kind replies before after taken kept old new p.0 p.1 (here_is world p.0 whole p.1) whole.stand (right world whole) t

  pub change_all : (world : World A) (m : Machine A) → Stands world → slice_get world app ≡ Some m → SaysChange (store_kind kind) (is_changing m i)
  change_all world m whole here = t.turn.change m (here_is world m whole here)

  -- ---- the loss

  cause_of : IsKind (store_kind kind) ((kept_keeper K).status t.dir_before) ((kept_keeper K).status t.dir_after)
  cause_of = t.turn.status.cause

  lost_old : ((kept_keeper K).status t.dir_before).lost ≡ (K.condition old).lost
  lost_old = ap (λ (v : V). (K.condition v).lost) t.over_old.same_volume

  lost_new : ((kept_keeper K).status t.dir_after).lost ≡ (K.condition new).lost
  lost_new = ap (λ (v : V). (K.condition v).lost) t.over_new.same_volume

  pub served_plain : ((changes : Bool) → kind ≢ kinds.Lost changes) → AreLost (K.condition old).lost sides → AreLost (K.condition new).lost (set sides app after)
  served_plain served are =
      let same : (K.condition new).lost ≡ (K.condition old).lost =
      sym lost_new ∙ lost_as_before kind ((kept_keeper K).status t.dir_before) ((kept_keeper K).status t.dir_after) cause_of served ∙ lost_old in
      lost_set (K.condition new).lost sides app after (subst (λ b. AreLost b sides) (sym same) are) (t.turn.lost ∙ lost_new)

  pub served_lost : (changes : Bool) → kind ≡ kinds.Lost changes → (left : List (AppSide A)) → AreLost true left → AreLost (K.condition new).lost left
  served_lost changes is left are =
      let cause : IsKind (store_kind (kinds.Lost changes)) ((kept_keeper K).status t.dir_before) ((kept_keeper K).status t.dir_after) =
      subst (λ (k : TurnKind). IsKind (store_kind k) ((kept_keeper K).status t.dir_before) ((kept_keeper K).status t.dir_after)) is cause_of in
      subst (λ b. AreLost b left) (sym cause.1 ∙ lost_new) are
