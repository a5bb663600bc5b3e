use Rattle.std.proofs.Common.{◌≡◌, Err, true, ap, refl, rules, sym, ◌∙◌}
use Rattle.store_api.specs.Keeping.{Contents}
use Rattle.store_api.specs.Stores.{Store}
use Rattle.object_asks.specs.Asks.{create_outcome, created_with}
use Rattle.object_asks.specs.Serving.{objects_in}
use Rattle.object_asks.specs.Sources.{IsObjectKey, stored_key}
use Rattle.object_asks.proofs.GivenLemmas.{given_refusal}
use Rattle.object_asks.proofs.ReadingLemmas.{given_after, looked}
use Rattle.object_asks.proofs.opening.create_from.Goals as goal

pub returns-in_err-key : goal.returns-in_err-key
returns-in_err-key g c =
    let t = g.T.AppStore.keeper in
    let before = objects_in c.args.held.now (t.contents c.args.store.now) in
    let is : c.from_residual.result ≡ Err c.in_err-key.field-0.0 = search rules in
    rw is (given_refusal t g.met.T.AppStore.honest_model (λ (store : Store). stored_key store c.args.attr.now) _ c.args.store.now c.read_key.new.store c.in_err-key.field-0.0
    (created_with before c.args.instance c.args.id c.args.flags c.args.content) true c.args.held.now refl c.in_err-key.ensures)

pub returns : goal.returns
returns g c =
    let t = g.T.AppStore.keeper in
    let held = c.args.held.now in
    let key = c.in_ok-key.key in
    let read = c.in_ok-key.ensures in
    let made = λ (k : Contents). create_outcome (objects_in held k) c.args.instance c.args.id c.args.flags c.args.content key in
    let one = looked t (λ store. stored_key store c.args.attr.now) IsObjectKey key c.args.store.now c.read_key.new.store read in
    given_after t g.met.T.AppStore.honest_model c.create_object.result (made (t.contents c.read_key.new.store))
    (created_with (objects_in held (t.contents c.args.store.now)) c.args.instance c.args.id c.args.flags c.args.content (stored_key (t.contents c.args.store.now).store c.args.attr.now))
    true held held c.create_object.new.held c.args.store.now c.read_key.new.store c.create_object.new.store one
    (λ there. ap made (one.same there) ∙ ap (created_with (objects_in held (t.contents c.args.store.now)) c.args.instance c.args.id c.args.flags c.args.content) (sym (read.answer there)))
    c.create_object.ensures
