use Rattle.std.proofs.Common.{rules, false, refl, ◌≡◌, Err}
use Rattle.store_api.specs.Stores.{Store}
use Rattle.object_asks.specs.Keys.{copied_from, copied_in}
use Rattle.object_asks.specs.Serving.{objects_in}
use Rattle.object_asks.specs.Sources.{stored_key}
use Rattle.object_asks.proofs.GivenLemmas.{given_found, given_refusal}
use Rattle.object_asks.proofs.ServingLemmas.{left_in}
use Rattle.object_asks.proofs.keys.copy_found.Goals as goal

pub returns-in_err-from : goal.returns-in_err-from
returns-in_err-from g c =
    let t = g.T.AppStore.keeper in
    let before = objects_in c.args.held.now (t.contents c.args.store.now) in
    let is : c.from_residual.result ≡ Err c.in_err-from.field-0.0 = search rules in
    rw is (given_refusal t g.met.T.AppStore.honest_model (λ (store : Store). stored_key store c.args.id.now) _ c.args.store.now c.read_key.new.store c.in_err-from.field-0.0
    (copied_in before c.args.instance c.args.to c.args.key.now) false c.args.held.now refl c.in_err-from.ensures)

pub returns : goal.returns
returns g c =
    let t = g.T.AppStore.keeper in
    let held = c.args.held.now in
    let before = objects_in held (t.contents c.args.store.now) in
    given_found t g.met.T.AppStore.honest_model (λ (store : Store). stored_key store c.args.id.now) _ c.args.store.now c.read_key.new.store c.in_ok-from.from
    (copied_in before c.args.instance c.args.to c.args.key.now) false c.copy_key.result held c.copy_key.new.held
    (left_in t c.copy_key.result (copied_from held c.args.instance c.args.to c.args.key.now c.in_ok-from.from) held c.copy_key.new.held c.args.store.now c.copy_key.ensures) c.in_ok-from.ensures
