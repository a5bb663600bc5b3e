-- A call, and the turns behind it.
use Rattle.app_api.specs.Behaviours.{Behaviour}
use Rattle.std.proofs.Common.{◌≡◌, ◌++◌, ℕ, List, [], ◌∷◌, Some, filter, refl, sym, subst, ◌∙◌, ap}
use Rattle.std.specs.Prelude.{slice_get}
use Rattle.app_api.specs.declared.call.Call.{Call}
use Rattle.alone.specs.Machine.{Machine}
use Rattle.alone.specs.Marks.{Marks, SameWithin, no_marks}
use Rattle.alone.specs.Runs.{events_of_call, turns_of_call}
use Rattle.alone.specs.Step.{Event, Called, after_call}
use Rattle.alone.proofs.Counted.{call_counts_none}
use Rattle.tee_core.specs.declared.happened.Happened.{Happened}
use Rattle.tee_core.specs.Happenings.{happened_in, happenings, is_told, marks_of, told_of_call}
use Rattle.store_api.specs.Volumes.{Condition}
use Rattle.tee_core.specs.Turns.{IsTurnedUntil, StopsBefore, StopsWithin}
use Rattle.tee_core.proofs.RunCounts.{none_marked}
use Rattle.tee_core.specs.World.{AppEvent, World, called_at, events_at, run_events, world_after, world_step}

module _ {A : Type 0} (behaviour : Behaviour A) (Stands : World A → Type 0) (world : World A) (m : Machine A) (app client : ℕ) (call : Call) (here : slice_get world app ≡ Some m) where
  abbrev called_then : Machine A
  called_then = (after_call m client call).machine

  abbrev world_then : World A
  world_then = world_step behaviour world (record { app = app; event = Called client call })

  events_append : (xs ys : List Event) → events_at behaviour app (xs ++ ys) ≡ events_at behaviour app xs ++ events_at behaviour app ys
  events_append [] ys = refl
  events_append (x ∷ xs) ys = ap (λ (es : List AppEvent). record { app = app; event = x } ∷ es) (events_append xs ys)

  -- what the run of the call is for the world
  run_is : (marks : Marks) → run_events behaviour marks world app client call ≡ events_at behaviour app (events_of_call behaviour marks m client call)
  run_is marks = ap (λ o. called_at behaviour marks app client call o) here

  module _ (h : Happened) (same : h ≡ happened_in behaviour m (Called client call)) where
    -- in whole
    module _ (turns : ℕ) (before told : List Happened) (alone : before ≡ h ∷ []) (turned : IsTurnedUntil behaviour Stands world_then called_then app h.instance h.op turns before told) where
      of_call : IsTurnedUntil behaviour Stands world_then called_then app (after_call m client call).instance m.queue.next turns before told
      of_call = subst (λ (x : Happened). IsTurnedUntil behaviour Stands world_then called_then app x.instance x.op turns before told) same turned

      turns_are : (marks : Marks) → SameWithin m.turns turns marks (marks_of told) → turns_of_call behaviour marks m client call ≡ of_call.made
      turns_are marks agree = of_call.by_marks marks (subst (λ n. SameWithin n turns marks (marks_of told)) (sym (call_counts_none m client call)) agree)

      pub run_stands : (marks : Marks) → SameWithin m.turns turns marks (marks_of told) → Stands (world_after behaviour world (run_events behaviour marks world app client call))
      run_stands marks agree =
          subst (λ (es : List AppEvent). Stands (world_after behaviour world es)) (sym (run_is marks))
          (subst (λ (es : List Event). Stands (world_after behaviour world_then (events_at behaviour app es))) (sym (turns_are marks agree)) of_call.stands)

      pub run_told : (marks : Marks) → SameWithin m.turns turns marks (marks_of told) → told ≡ told_of_call behaviour marks m client call
      run_told marks agree =
          of_call.told_so
          ∙ ap (λ (hs : List Happened). hs ++ filter is_told (happenings behaviour called_then of_call.made)) (alone ∙ ap (λ (x : Happened). x ∷ []) same)
          ∙ ap (λ (es : List Event). happened_in behaviour m (Called client call) ∷ filter is_told (happenings behaviour called_then es)) (sym (turns_are marks agree))

    -- in part
    pub run_part : (old new : Condition) → StopsBefore behaviour Stands world_then called_then app h.instance h.op old new → StopsWithin behaviour Stands world app client call old new
    run_part old new stopped =
        let s = subst (λ (x : Happened). StopsBefore behaviour Stands world_then called_then app x.instance x.op old new) same stopped in
        record {
          marks = s.marks;
          marked = s.marked;
          made = record { app = app; event = Called client call } ∷ events_at behaviour app s.made;
          rest = events_at behaviour app s.rest;
          all = run_is s.marks ∙ ap (λ (es : List Event). record { app = app; event = Called client call } ∷ events_at behaviour app es) s.all
              ∙ ap (λ (es : List AppEvent). record { app = app; event = Called client call } ∷ es) (events_append s.made s.rest);
          stands = s.stands;
        }

    -- the same where the call left what is counted
    pub run_part_from : (first old new : Condition) → old ≡ first → StopsBefore behaviour Stands world_then called_then app h.instance h.op old new
        → StopsWithin behaviour Stands world app client call first new
    run_part_from first old new still stopped =
        run_part first new (subst (λ (c : Condition). StopsBefore behaviour Stands world_then called_then app h.instance h.op c new) still stopped)

  -- the call alone
  pub run_call : (old new : Condition) → Stands world_then → StopsWithin behaviour Stands world app client call old new
  run_call old new stands = record {
    marks = no_marks;
    marked = none_marked old new;
    made = record { app = app; event = Called client call } ∷ [];
    rest = events_at behaviour app (turns_of_call behaviour no_marks m client call);
    all = run_is no_marks;
    stands = stands;
  }

  -- nothing
  pub run_none : (old new : Condition) → Stands world → StopsWithin behaviour Stands world app client call old new
  run_none old new stands = record {
    marks = no_marks;
    marked = none_marked old new;
    made = [];
    rest = events_at behaviour app (events_of_call behaviour no_marks m client call);
    all = run_is no_marks;
    stands = stands;
  }
