use Rattle.std.proofs.Common.{None, rules, false, refl, ◌≡◌, Err}
use Rattle.store_api.specs.Stores.{Store, next_after}
use Rattle.object_asks.specs.Lists.{started_by}
use Rattle.object_asks.specs.Serving.{objects_in}
use Rattle.object_asks.proofs.GivenLemmas.{given_found, given_refusal}
use Rattle.object_asks.proofs.enumerating.start_found.Goals as goal

pub returns-in_err-_first : goal.returns-in_err-_first
returns-in_err-_first g c =
    let t = g.T.AppStore.keeper in
    let before = objects_in c.args.held.now (t.contents c.args.store.now) in
    let is : c.from_residual.result ≡ Err c.in_err-_first.field-0.0 = search rules in
    rw is (given_refusal t g.met.T.AppStore.honest_model (λ (store : Store). next_after store None) _ c.args.store.now c.next_after.new.self c.in_err-_first.field-0.0
    (started_by before c.args.instance c.args.list) false c.args.held.now refl c.in_err-_first.ensures)

pub returns : goal.returns
returns g c =
    let t = g.T.AppStore.keeper in
    let before = objects_in c.args.held.now (t.contents c.args.store.now) in
    given_found t g.met.T.AppStore.honest_model (λ (store : Store). next_after store None) _ c.args.store.now c.next_after.new.self c.in_ok-_first._first
    (started_by before c.args.instance c.args.list) false _ c.args.held.now c.set_walk.new.self (search rules) c.in_ok-_first.ensures
