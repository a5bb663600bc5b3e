use Rattle.std.proofs.Common.{rules, false, refl, ◌≡◌, Err}
use Rattle.store_api.specs.Stores.{Store, found}
use Rattle.object_asks.specs.Asks.{opened_by}
use Rattle.object_asks.specs.Serving.{objects_in}
use Rattle.object_asks.proofs.GivenLemmas.{given_found, given_refusal}
use Rattle.object_asks.proofs.opening.open_found.Goals as goal

pub returns-in_err-_facts : goal.returns-in_err-_facts
returns-in_err-_facts g c =
    let t = g.T.AppStore.keeper in
    let before = objects_in c.args.held.now (t.contents c.args.store.now) in
    let is : c.from_residual.result ≡ Err c.in_err-_facts.field-0.0 = search rules in
    rw is (given_refusal t g.met.T.AppStore.honest_model (λ (store : Store). found store c.args.id.now) _ c.args.store.now c.find.new.self c.in_err-_facts.field-0.0
    (opened_by before c.args.instance c.args.id.now c.args.flags) false c.args.held.now refl c.in_err-_facts.ensures)

pub returns-then-not-may_open : goal.returns-then-not-may_open
returns-then-not-may_open g c =
    let t = g.T.AppStore.keeper in
    let before = objects_in c.args.held.now (t.contents c.args.store.now) in
    given_found t g.met.T.AppStore.honest_model (λ (store : Store). found store c.args.id.now) _ c.args.store.now c.find.new.self c.in_ok-_facts._facts
    (opened_by before c.args.instance c.args.id.now c.args.flags) false _ c.args.held.now c.args.held.now (search rules) c.in_ok-_facts.ensures

pub returns-in_err-number : goal.returns-in_err-number
returns-in_err-number g c = search rules

pub returns : goal.returns
returns g c =
    let t = g.T.AppStore.keeper in
    let before = objects_in c.args.held.now (t.contents c.args.store.now) in
    given_found t g.met.T.AppStore.honest_model (λ (store : Store). found store c.args.id.now) _ c.args.store.now c.find.new.self c.in_ok-_facts._facts
    (opened_by before c.args.instance c.args.id.now c.args.flags) false _ c.args.held.now c.add.new.self (search rules) c.in_ok-_facts.ensures
