use Rattle.std.proofs.Common.{◌≡◌, Err, rules}
use Rattle.object_asks.proofs.ReadingLemmas.{facts_refused, key_read, secret_refused}
use Rattle.object_asks.proofs.opening.read_key.Goals as goal

pub returns-in_err-facts : goal.returns-in_err-facts
returns-in_err-facts g c =
    let is : c.from_residual.result ≡ Err c.in_err-facts.field-0.0 = search rules in
    rw is (facts_refused g.T.AppStore.keeper g.met.T.AppStore.honest_model c.args.id.now c.in_err-facts.field-0.0 c.args.store.now c.find.new.self c.in_err-facts.ensures)

pub returns-in_err-secret : goal.returns-in_err-secret
returns-in_err-secret g c =
    let is : c.from_residual-in_err-secret.result ≡ Err c.in_err-secret.field-0.0 = search rules in
    rw is (secret_refused g.T.AppStore.keeper g.met.T.AppStore.honest_model c.args.id.now c.in_ok-facts.facts c.in_err-secret.field-0.0 c.args.store.now c.find.new.self c.secret.new.self
    c.in_ok-facts.ensures c.in_err-secret.ensures)

pub returns : goal.returns
returns g c =
    rw (c.from_slice.ensures, c.as_slice.ensures) (key_read g.T.AppStore.keeper g.met.T.AppStore.honest_model c.args.id.now c.in_ok-facts.facts c.in_ok-secret.secret c.args.store.now
    c.find.new.self c.secret.new.self c.in_ok-facts.ensures c.in_ok-secret.ensures)
