use Rattle.std.proofs.Common.{rules, false, refl, ◌≡◌, Err}
use Rattle.store_api.specs.Stores.{Store}
use Rattle.object_asks.specs.Keys.{secret_by}
use Rattle.object_asks.specs.Serving.{objects_in}
use Rattle.object_asks.specs.Sources.{stored_key}
use Rattle.object_asks.proofs.GivenLemmas.{given_found, given_refusal}
use Rattle.object_asks.proofs.keys.secret_found.Goals as goal

pub returns-in_err-key : goal.returns-in_err-key
returns-in_err-key g c =
    let t = g.T.AppStore.keeper in
    let before = objects_in c.args.held.now (t.contents c.args.store.now) in
    let is : c.from_residual.result ≡ Err c.in_err-key.field-0.0 = search rules in
    rw is (given_refusal t g.met.T.AppStore.honest_model (λ (store : Store). stored_key store c.args.id.now) _ c.args.store.now c.read_key.new.store c.in_err-key.field-0.0
    (secret_by before c.args.room) false c.args.held.now refl c.in_err-key.ensures)

pub returns-in_err-tell_secret : goal.returns-in_err-tell_secret
returns-in_err-tell_secret g c = search rules

pub returns : goal.returns
returns g c =
    let t = g.T.AppStore.keeper in
    let before = objects_in c.args.held.now (t.contents c.args.store.now) in
    given_found t g.met.T.AppStore.honest_model (λ (store : Store). stored_key store c.args.id.now) _ c.args.store.now c.read_key.new.store c.in_ok-key.key
    (secret_by before c.args.room) false _ c.args.held.now c.args.held.now (c.in_ok-tell_secret.ensures c.args.held.now (t.contents c.args.store.now)) c.in_ok-key.ensures
