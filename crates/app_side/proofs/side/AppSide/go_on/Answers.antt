use Rattle.std.proofs.Common.{◌≡◌, ◌∙◌, Bool, Err, Option, Some, None, find, refl, rules, sym, ap, subst}
use Rattle.alone.specs.declared.active_entry.Instance.{Instance}
use Rattle.alone.specs.declared.active_entry.ActiveEntry.{ActiveEntry}
use Rattle.app_api.specs.declared.ask.Ask.{Ask}
use Rattle.app_side.proofs.Torn.{set_torn}
use Rattle.std.proofs.lemmas.Result.{on_err_weaker}
use Rattle.alone.specs.Machine.{Machine, is_number}
use Rattle.alone.specs.Step.{of_instance, of_running, of_waits, turned_by}
use Rattle.app_side.specs.Represents.{IsStep, machine_of, machine_over}
use Rattle.object_asks.specs.Resolutions.{Serves}
use Rattle.object_asks.specs.Serving.{objects_in, serving_of, CrashTurns, TriesOnce}
use Rattle.app_side.specs.Asking.{is_to_change, reaches_store}
use Rattle.operation_asks.specs.Kept.{state_of}
use Rattle.app_side.proofs.Carried.{none_tried, plain_turn}
use Rattle.app_side.proofs.Taken.{found_there, go_on_turned, place_kept}
use Rattle.app_side.proofs.TurnLemmas.{begins, begun_lost, moves, none_of, starves_alike, starves_turn}
use Rattle.std.proofs.lemmas.Result.{IfOk-weaker}
use Rattle.object_asks.proofs.Crashes.{idle_crash}
use Rattle.object_asks.proofs.ServingLemmas.{by_nothing}
use Rattle.app_side.proofs.side.AppSide.go_on.Goals as goal

pub returns-in_err-begin : goal.returns-in_err-begin
returns-in_err-begin g c inst found =
    let t = g.T.AppStore.keeper in
    let store = c.args.store.now in
    let same = by_nothing t store in
    let handed : c.from_residual.result ≡ Err c.in_err-begin.field-0.0 = search rules in
    starves_turn t _ _ _ c.args.number c.from_residual.result c.in_err-begin.field-0.0 c.args.self.now c.begin.new.self c.args.replies.now store store handed
    (none_tried _ (t.status store)) same (starves_alike t c.args.number c.args.self.now c.begin.new.self c.args.replies.now store store c.in_err-begin.ensures.err same.status c.requires.none)

pub returns-then-is_none : goal.returns-then-is_none
returns-then-is_none g c inst found =
    let t = g.T.AppStore.keeper in
    let before = t.contents c.args.store.now in
    record {
      step = λ there same doubt.
          let both : Some c.index.result.now ≡ Some inst = ap Some c.index.ensures ∙ sym (c.requires.place.found c.index.result.now) ∙ found in
          let here : c.index.result.now ≡ inst = cc in
          let idle : inst.running ≡ None = ap (λ (x : Instance g.row.A.Denot). x.running) (sym here) ∙ none_of c.index.result.now.running c.if-is_none.ensures in
          subst (λ (o : Option ActiveEntry). IsStep c.begin.new.self before.store c.args.replies.now (turned_by g.A.Application.behaviour Serves
          (machine_over c.args.self.now before.store doubt) inst o)) (sym idle)
          (begins c.args.self.now c.begin.new.self c.args.replies.now inst before.store doubt (c.in_ok-begin.ensures.ok inst found) c.requires.none);
      kind = plain_turn t _ _ _ _ c.args.store.now
          (ap (λ (m : Machine g.row.A.Denot). m.lost) (c.in_ok-begin.ensures.ok inst found) ∙ begun_lost (machine_of c.args.self.now) inst);
      tried = none_tried _ (t.status c.args.store.now);
      want = tt;
      starves = tt;
      crash = λ honest just doubt. idle_crash t _ _ c.args.store.now just;
    }

pub resume-requires-clause-place : goal.resume-requires-clause-place
resume-requires-clause-place g c = place_kept c.args.number c.args.self.now.instances.items c.args.place _ c.requires.place
    (ap (λ (x : Instance g.row.A.Denot). x.number) c.index_mut.ensures.value ∙ c.requires.place.named c.index_mut.result.now)

pub returns : goal.returns
returns g c inst found =
    let t = g.T.AppStore.keeper in
    let before = t.contents c.args.store.now in
    let x = c.index_mut.result.now in
    let there : find (is_number c.args.number) c.args.self.now.instances.items ≡ Some x = c.requires.place.found x ∙ ap Some (sym c.index_mut.ensures.value) in
    let waiting : (test : ActiveEntry → Ask → Bool) → of_waits test c.in-Some.running c.in-Some.running.waits ≡ of_instance test (find (is_number c.args.number) c.args.self.now.instances.items)
    = λ test. sym (ap (of_instance test) there ∙ ap (of_running test) (sym c.in-Some.ensures.value)) in
    let idle : Instance g.row.A.Denot = record x { running = c.take.new.self } in
    let kept = found_there c.args.number c.args.self.now.instances.items c.args.place idle c.requires.place (ap (λ (y : Instance g.row.A.Denot). y.number) c.index_mut.ensures.value
    ∙ c.requires.place.named x) in
    let is = c.resume.ensures idle kept in
    record {
      step = IfOk-weaker c.resume.result _ _ (λ kind step model same doubt. go_on_turned g.A.Application.behaviour (serving_of kind)
          (machine_over c.args.self.now before.store doubt) c.args.number c.args.place x c.take.new.self c.in-Some.running
          (IsStep c.resume.new.self (t.contents c.resume.new.store).store c.resume.new.replies) c.requires.place c.index_mut.ensures.value c.take.ensures.after
          (sym c.in-Some.ensures.value) (step model same doubt) inst found) is.step;
      kind = IfOk-weaker c.resume.result _ _ (λ kind of. moves t kind _ _ _ _ _ _ _ c.args.store.now c.resume.new.store
          (waiting (reaches_store (objects_in c.args.self.now.held before) (state_of c.args.self.now.operations) c.args.number)) (waiting is_to_change) refl of) is.kind;
      tried = subst (λ (b : Bool). TriesOnce b (t.status c.args.store.now) (t.status c.resume.new.store)) (waiting is_to_change) is.tried;
      want = is.want;
      starves = on_err_weaker c.resume.result (λ starves. record {
        alike = λ model same code origin. starves.alike model same code origin ∙ set_torn (machine_of c.args.self.now) c.args.number c.args.place idle code origin c.requires.place
            (ap (λ (y : Instance g.row.A.Denot). y.number) c.index_mut.ensures.value ∙ c.requires.place.named x);
        lost = starves.lost;
        none = starves.none;
      }) is.starves;
      crash = IfOk-weaker c.resume.result _ _ (λ kind crash honest just doubt. go_on_turned g.A.Application.behaviour (serving_of kind)
          (machine_over c.args.self.now before.store doubt) c.args.number c.args.place x c.take.new.self c.in-Some.running
          (λ s. CrashTurns t kind s.machine.in_doubt c.args.store.now c.resume.new.store) c.requires.place c.index_mut.ensures.value c.take.ensures.after
          (sym c.in-Some.ensures.value) (crash honest just doubt) inst found) is.crash;
    }
