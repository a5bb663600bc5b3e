-- Calls and cancellations, for the world that stands over the regions of a volume.
use Rattle.app_api.specs.Behaviours.{Behaviour}
use Rattle.std.proofs.Common.{◌≡◌, ◌<◌, ◌≤◌, ℕ, List, Option, Some, get_or, length, set, sym, subst, inl}
use Rattle.std.specs.Prelude.{slice_get}
use Rattle.alone.proofs.Storage.{call_leaves_storage, cancellation_leaves_storage}
use Rattle.alone.specs.Laws.{StorageStays}
use Rattle.alone.specs.Machine.{Machine}
use Rattle.alone.specs.Step.{Called, Cancelled, after_call, after_cancellation}
use Rattle.app_api.specs.declared.call.Call.{Call}
use Rattle.app_side.specs.Represents.{Represents as Runs_as}
use Rattle.app_side.specs.declared.side.AppSide.{AppSide}
use Rattle.store_api.specs.Volumes.{Held, VolumeKeeper}
use Rattle.tee_core.specs.Moments.{IsWithin}
use Rattle.tee_core.specs.Represents.{StandFor, none_kept}
use Rattle.tee_core.specs.World.{World, moved_at, world_step}
use Rattle.tee_core.proofs.SideLemmas.{side_at, side_here, sides_kept, sides_set}
use Rattle.tee_core.proofs.Stores.{left_has}
use Rattle.tee_core.proofs.Turning.{doubt_back, left_stays, stores_stay}

module _ {V A : Type 0} (K : VolumeKeeper V) (behaviour : Behaviour A) where
  -- one application at a place takes an event that leaves the storage
  pub stand_moved : (sides : List (AppSide A)) (volume : V) (world : World A) (app : ℕ) (m then : Machine A) (after : AppSide A) → slice_get world app ≡ Some m →
      Runs_as after then → StorageStays m then
      → StandFor K sides volume world → StandFor K (set sides app after) volume (set world app then)
  stand_moved sides volume world app m then after here stands stays whole = record {
    honest = whole.honest;
    sides_are = sides_set sides world app after then whole.sides_are stands;
    stores = stores_stay none_kept 0 app world (K.held volume) m then here stays.store stays.in_doubt whole.stores;
    left = λ o left. left_stays world (K.held volume).sequence app m then o here stays.store stays.in_doubt (whole.left o left);
    calm = λ works owner has. whole.calm works owner (doubt_back world app owner m then here stays.in_doubt has);
    single = λ one other first second. whole.single one other (doubt_back world app one m then here stays.in_doubt first) (doubt_back world app other m then here stays.in_doubt second);
  }

  -- a call
  pub stand_called : (sides : List (AppSide A)) (volume : V) (world : World A) (app client : ℕ) (call : Call) (old d after : AppSide A) → app < length sides → old ≡ get_or sides app d
      → ((m : Machine A) → Runs_as old m → Runs_as after (after_call m client call).machine)
      → StandFor K sides volume world → StandFor K (set sides app after) volume (world_step behaviour world (record { app = app; event = Called client call }))
  stand_called sides volume world app client call old d after lt value moves whole =
      let p = side_at sides world app whole.sides_are lt in
      let stands : Runs_as old p.0 = side_here sides world app old d p.0 whole.sides_are lt value p.1 in
      subst (λ (o : Option (Machine A)). StandFor K (set sides app after) volume (moved_at behaviour world app (Called client call) o)) (sym p.1)
      (stand_moved sides volume world app p.0 (after_call p.0 client call).machine after p.1 (moves p.0 stands) (call_leaves_storage p.0 client call) whole)

  -- a cancellation
  pub stand_cancelled : (sides : List (AppSide A)) (volume : V) (world : World A) (app op : ℕ) (old d after : AppSide A) → app < length sides → old ≡ get_or sides app d
      → ((m : Machine A) → Runs_as old m → Runs_as after (after_cancellation m op).machine)
      → StandFor K sides volume world → StandFor K (set sides app after) volume (world_step behaviour world (record { app = app; event = Cancelled op }))
  stand_cancelled sides volume world app op old d after lt value moves whole =
      let p = side_at sides world app whole.sides_are lt in
      let stands : Runs_as old p.0 = side_here sides world app old d p.0 whole.sides_are lt value p.1 in
      subst (λ (o : Option (Machine A)). StandFor K (set sides app after) volume (moved_at behaviour world app (Cancelled op) o)) (sym p.1)
      (stand_moved sides volume world app p.0 (after_cancellation p.0 op).machine after p.1 (moves p.0 stands) (cancellation_leaves_storage p.0 op) whole)

  -- an application that still stands for what it stood for
  pub stand_kept : (sides : List (AppSide A)) (volume : V) (world : World A) (app : ℕ) (old d after : AppSide A) → app < length sides → old ≡ get_or sides app d
      → ((m : Machine A) → Runs_as old m → Runs_as after m) → StandFor K sides volume world → StandFor K (set sides app after) volume world
  stand_kept sides volume world app old d after lt value keeps whole = record {
    honest = whole.honest;
    sides_are = sides_kept sides world app old after d whole.sides_are lt value keeps;
    stores = whole.stores;
    left = whole.left;
    calm = whole.calm;
    single = whole.single;
  }

  -- an event that leaves the volume takes no time
  pub within_still : (since : (v : V) (t u : ℕ) (o : Option Held) → t ≤ u → K.left_since v u o → K.left_since v t o) (sides : List (AppSide A)) (volume : V) (before after : World A)
      → K.moment volume ≤ K.moment volume → StandFor K sides volume before → IsWithin K before after volume volume
  within_still since sides volume before after le whole = record {
    later = le;
    each = λ o left. inl (left_has before (K.held volume).sequence o (whole.left o left));
  }
