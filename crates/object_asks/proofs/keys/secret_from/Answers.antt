use Rattle.std.proofs.Common.{false, ap, sym, ◌∙◌}
use Rattle.object_asks.specs.Asks.{ComesToStore}
use Rattle.object_asks.specs.Keys.{secret_by, secret_from, secret_told}
use Rattle.object_asks.specs.Serving.{objects_in}
use Rattle.object_asks.specs.Sources.{stored_key}
use Rattle.object_asks.proofs.ServingLemmas.{serves_here, serves_told}
use Rattle.object_asks.proofs.keys.secret_from.Goals as goal

pub returns-in_ok-tell_secret-in-InMemory : goal.returns-in_ok-tell_secret-in-InMemory
returns-in_ok-tell_secret-in-InMemory g c =
    let t = g.T.AppStore.keeper in
    let held = c.args.held.now in
    let before = objects_in held (t.contents c.args.store.now) in
    serves_here t c.plain.result c.in_ok-tell_secret-in-InMemory.field-0 (secret_from before c.args.room c.args.source.now)
    (secret_told before c.args.room c.in-InMemory.key) false held held c.args.store.now c.plain.ensures (ap (secret_from before c.args.room) c.in-InMemory.is)
    (c.in_ok-tell_secret-in-InMemory.ensures held (t.contents c.args.store.now))

pub returns-in-InStore : goal.returns-in-InStore
returns-in-InStore g c =
    let t = g.T.AppStore.keeper in
    let held = c.args.held.now in
    let store = c.args.store.now in
    let before = objects_in held (t.contents store) in
    let found = λ (id : _). secret_by before c.args.room (stored_key before.store id) in
    serves_told t c.secret_found.result c.told.result (secret_from before c.args.room c.args.source.now) (found c.as_slice.result.now) false held held
    c.secret_found.new.held store c.secret_found.new.store c.told.ensures.ok c.told.ensures.err
    (ap (secret_from before c.args.room) c.in-InStore.is ∙ ap (λ id. ComesToStore before (found id)) (sym c.as_slice.ensures))
    c.secret_found.ensures
