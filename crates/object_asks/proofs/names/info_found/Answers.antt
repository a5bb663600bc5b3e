use Rattle.std.proofs.Common.{ℕ, List, Ok, subst, rules, false, refl, ◌≡◌, Err}
use Rattle.store_api.specs.Stores.{Store, found}
use Rattle.object_asks.specs.Asks.{told_of_object}
use Rattle.store_api.specs.Keeping.{Reads}
use Rattle.store_api.specs.Limits.{AreFacts}
use Rattle.object_asks.specs.Serving.{objects_in}
use Rattle.object_asks.proofs.GivenLemmas.{given_found, given_refusal}
use Rattle.object_asks.proofs.names.info_found.Goals as goal

pub returns-in_err-facts : goal.returns-in_err-facts
returns-in_err-facts g c =
    let t = g.T.AppStore.keeper in
    let before = objects_in c.args.held.now (t.contents c.args.store.now) in
    let is : c.from_residual.result ≡ Err c.in_err-facts.field-0.0 = search rules in
    rw is (given_refusal t g.met.T.AppStore.honest_model (λ (store : Store). found store c.args.id) _ c.args.store.now c.find.new.self c.in_err-facts.field-0.0
    (told_of_object before c.args.flags c.args.position) false c.args.held.now refl
    (subst (λ (id : List ℕ). Reads t (λ (store : Store). found store id) AreFacts (Err c.in_err-facts.field-0.0) c.args.store.now c.find.new.self) c.as_slice.ensures c.in_err-facts.ensures))

pub returns : goal.returns
returns g c =
    let t = g.T.AppStore.keeper in
    let before = objects_in c.args.held.now (t.contents c.args.store.now) in
    given_found t g.met.T.AppStore.honest_model (λ (store : Store). found store c.args.id) _ c.args.store.now c.find.new.self c.in_ok-facts.facts
    (told_of_object before c.args.flags c.args.position) false _ c.args.held.now c.args.held.now (search rules)
    (subst (λ (id : List ℕ). Reads t (λ (store : Store). found store id) AreFacts (Ok c.in_ok-facts.facts) c.args.store.now c.find.new.self) c.as_slice.ensures c.in_ok-facts.ensures)
