-- From what a crash within an ask may leave to what one within the turn may leave: the store in doubt is the machine's.
use Rattle.std.proofs.Common.{ℕ, ◌≡◌, Bool, true, false, cond, Option, Some, sym, ap, subst}
use Rattle.app_api.specs.declared.ask.Ask.{Ask}
use Rattle.store_api.specs.Keeping.{Keeper}
use Rattle.store_api.specs.Stores.{Store}
use Rattle.object_asks.specs.declared.turn.TurnKind.{TurnKind}
use Rattle.object_asks.specs.declared.turn.TurnKind.TheVariants.{Plain, Lost, Corrupted}
use Rattle.object_asks.specs.Asks.{changes_store, object_resolution}
use Rattle.object_asks.specs.Resolutions.{Answered, ComesToStore, Resolution, Objects, Outcome, Panicked, Returned, Settled, resolution_in, outcome_in}
use Rattle.object_asks.specs.Serving.{CrashTurns, SaysChange, serving_of, would_leave}
use Rattle.object_asks.proofs.Crashes.{in_any}
use Rattle.alone.specs.declared.active_entry.Instance.{Instance}
use Rattle.alone.specs.declared.active_entry.ActiveEntry.{ActiveEntry}
use Rattle.alone.specs.declared.family.Family.TheVariants as families
use Rattle.alone.specs.Families.{family_of}
use Rattle.alone.specs.Asks.{resolution, objects_of, with_objects}
use Rattle.alone.specs.Machine.{Machine}
use Rattle.alone.specs.Step.{after_ask, serve_outcome, store_left}
use Rattle.app_side.proofs.Carried.{of_family}
use Rattle.app_side.specs.Serving.{in_doubt_by}

-- the store in doubt where a change's call failed
doubt_left : {A : Type 0} (m kept : Machine A) (changes : Bool) (if_served : Outcome (Machine A)) → true ≡ changes →
    cond changes (Some (store_left kept if_served)) kept.in_doubt ≡ Some (store_left kept if_served)
doubt_left m kept changes if_served e = ap (λ (b : Bool). cond b (Some (store_left kept if_served)) kept.in_doubt) (sym e)

module _ {D : Type 0} (K : Keeper D) (old new : D) where
  abbrev Crash : TurnKind → Option Store → Type 0
  Crash kind in_doubt = CrashTurns K kind in_doubt old new

  -- a change's call failed: what the ask would leave is in doubt
  lost_in : {A : Type 0} (m : Machine A) (ask : Ask) (kept : Objects) (if_served : Outcome Objects) → true ≡ changes_store ask → Crash (Lost true) (would_leave (ComesToStore kept if_served))
      → Crash (Lost true) (in_doubt_by (serve_outcome (serving_of (Lost true)) m ask (resolution_in (with_objects m) (ComesToStore kept if_served))))
  lost_in m ask kept (Answered after answer) says crash = subst (Crash (Lost true)) (sym (doubt_left m (with_objects m kept) (changes_store ask)
      (outcome_in (with_objects m) (Answered after answer)) says)) crash
  lost_in m ask kept (Returned code outs) says crash = in_any K (Lost true) _ old new crash
  lost_in m ask kept Panicked says crash = in_any K (Lost true) _ old new crash

  carried_in : {A : Type 0} (m : Machine A) (ask : Ask) (kind : TurnKind) (c : Resolution Objects) → SaysChange kind (changes_store ask) → Crash kind (would_leave c) →
      Crash kind (in_doubt_by (serve_outcome (serving_of kind) m ask (resolution_in (with_objects m) c)))
  carried_in m ask Plain c says crash = record { any_moment = crash.any_moment; afterwards = crash.afterwards }
  carried_in m ask Corrupted c says crash = record { any_moment = crash.any_moment; afterwards = crash.afterwards }
  carried_in m ask (Lost false) c says crash = record { any_moment = crash.any_moment; afterwards = crash.afterwards }
  carried_in m ask (Lost true) (Settled outcome) says crash = in_any K (Lost true) _ old new crash
  carried_in m ask (Lost true) (ComesToStore kept if_served) says crash = lost_in m ask kept if_served says crash

  pub carried_crash : {A : Type 0} (m : Machine A) (i : ℕ) (r : ActiveEntry) (ask : Ask) (kind : TurnKind) → family_of ask ≡ families.Objects → SaysChange kind (changes_store ask)
      → Crash kind (would_leave (object_resolution (objects_of m) i ask)) → Crash kind (in_doubt_by (serve_outcome (serving_of kind) m ask (resolution m i r ask)))
  carried_crash {A} m i r ask kind family says crash =
      subst (λ (c : Resolution (Machine A)). Crash kind (in_doubt_by (serve_outcome (serving_of kind) m ask c))) (sym (of_family families.Objects m i r ask family))
      (carried_in m ask kind (object_resolution (objects_of m) i ask) says crash)

  -- the machine behind the ask has that store in doubt
  pub acted_crash : {A : Type 0} (m : Machine A) (inst : Instance A) (r : ActiveEntry) (kind : TurnKind) (o : Outcome (Machine A)) → Crash kind (in_doubt_by o) →
      Crash kind (after_ask m inst r o).machine.in_doubt
  acted_crash m inst r kind (Answered after answer) crash = crash
  acted_crash m inst r kind (Returned code outs) crash = in_any K kind _ old new crash
  acted_crash m inst r kind Panicked crash = in_any K kind _ old new crash
