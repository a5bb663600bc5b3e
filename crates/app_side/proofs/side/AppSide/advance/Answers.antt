use Rattle.std.proofs.Common.{◌≡◌, ◌∙◌, ◌+◌, List, Option, Some, None, is_some, find, refl, sym, ap, subst}
use Rattle.alone.specs.declared.active_entry.Instance.{Instance}
use Rattle.alone.specs.Machine.{is_number}
use Rattle.app_side.specs.Represents.{IsStep, machine_over}
use Rattle.object_asks.specs.Resolutions.{Serves}
use Rattle.object_asks.specs.Serving.{CrashTurns, serving_of}
use Rattle.app_side.proofs.Carried.{none_tried, plain_turn}
use Rattle.std.proofs.lemmas.Result.{IfOk-weaker, on_err_weaker}
use Rattle.alone.specs.Step.{turned_as, turned_at}
use Rattle.app_side.proofs.Torn.{on_err_any}
use Rattle.object_asks.proofs.Crashes.{idle_crash}
use Rattle.app_side.proofs.side.AppSide.advance.Goals as goal

pub returns-in-None : goal.returns-in-None
unfolding turned_as
returns-in-None g c =
    let t = g.T.AppStore.keeper in
    let before = t.contents c.args.store.now in
    let none : find (is_number c.args.instance) c.args.self.now.instances.items ≡ None = ap (λ (xs : List (Instance g.row.A.Denot)). find (is_number c.args.instance) xs)
    (sym c.as_slice.ensures.value) ∙ c.in-None.ensures.none in
    record {
      step = λ there same doubt.
          subst (λ (o : Option (Instance g.row.A.Denot)). IsStep (record c.args.self.now { turns = c.args.self.now.turns + 1 }) before.store c.args.replies.now
          (turned_at g.A.Application.behaviour Serves (record (machine_over c.args.self.now before.store doubt) { turns = c.args.self.now.turns + 1 }) o)) (sym none)
          (record { doubt = doubt; machine = refl; replies = c.requires.none });
      kind = plain_turn t _ _ _ _ c.args.store.now refl;
      tried = none_tried _ (t.status c.args.store.now);
      want = tt;
      starves = tt;
      there = tt;
      crash = λ honest just doubt. idle_crash t _ _ c.args.store.now just;
    }

pub returns-in-Some : goal.returns-in-Some
unfolding turned_as
returns-in-Some g c =
    let t = g.T.AppStore.keeper in
    let before = t.contents c.args.store.now in
    let there = c.in-Some.ensures.found.some in
    let here : find (is_number c.args.instance) c.args.self.now.instances.items ≡ Some there.0 = ap (λ (xs : List (Instance g.row.A.Denot)). find (is_number c.args.instance) xs)
    (sym c.as_slice.ensures.value) ∙ there.1 in
    let is = c.go_on.ensures there.0 here in
    record {
      step = IfOk-weaker c.go_on.result _ _ (λ kind step model same doubt.
          subst (λ (o : Option (Instance g.row.A.Denot)). IsStep c.go_on.new.self (t.contents c.go_on.new.store).store c.go_on.new.replies
          (turned_at g.A.Application.behaviour (serving_of kind) (record (machine_over c.args.self.now before.store doubt) { turns = c.args.self.now.turns + 1 }) o)) (sym here)
          (step model same doubt)) is.step;
      kind = is.kind;
      tried = is.tried;
      want = is.want;
      starves = on_err_weaker c.go_on.result (λ starves. record { alike = starves.alike; lost = starves.lost; none = starves.none }) is.starves;
      there = on_err_any c.go_on.result (ap is_some here);
      crash = IfOk-weaker c.go_on.result _ _ (λ kind crash honest just doubt.
          subst (λ (o : Option (Instance g.row.A.Denot)). CrashTurns t kind (turned_at g.A.Application.behaviour (serving_of kind)
          (record (machine_over c.args.self.now before.store doubt) { turns = c.args.self.now.turns + 1 }) o).machine.in_doubt c.args.store.now c.go_on.new.store) (sym here)
          (crash honest just doubt)) is.crash;
    }
