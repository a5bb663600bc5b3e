use Rattle.std.proofs.Common.{false, ap, sym, ◌∙◌}
use Rattle.object_asks.specs.Asks.{ComesToStore}
use Rattle.object_asks.specs.Keys.{copied_from, copied_in, copy_from}
use Rattle.object_asks.specs.Serving.{objects_in}
use Rattle.object_asks.specs.Sources.{stored_key}
use Rattle.object_asks.proofs.ServingLemmas.{serves_held, serves_told}
use Rattle.object_asks.proofs.keys.copy_from.Goals as goal

pub returns-in-InMemory : goal.returns-in-InMemory
returns-in-InMemory g c =
    let t = g.T.AppStore.keeper in
    let held = c.args.held.now in
    let before = objects_in held (t.contents c.args.store.now) in
    serves_held t c.plain.result c.copy_key.result (copy_from before c.args.instance c.args.to c.args.key.now c.args.source.now)
    (copied_from held c.args.instance c.args.to c.args.key.now c.in-InMemory.from) false held c.copy_key.new.held c.args.store.now c.plain.ensures
    (ap (copy_from before c.args.instance c.args.to c.args.key.now) c.in-InMemory.is) c.copy_key.ensures

pub returns-in-InStore : goal.returns-in-InStore
returns-in-InStore g c =
    let t = g.T.AppStore.keeper in
    let held = c.args.held.now in
    let store = c.args.store.now in
    let before = objects_in held (t.contents store) in
    let found = λ (id : _). copied_in before c.args.instance c.args.to c.args.key.now (stored_key before.store id) in
    serves_told t c.copy_found.result c.told.result (copy_from before c.args.instance c.args.to c.args.key.now c.args.source.now) (found c.as_slice.result.now) false held held
    c.copy_found.new.held store c.copy_found.new.store c.told.ensures.ok c.told.ensures.err
    (ap (copy_from before c.args.instance c.args.to c.args.key.now) c.in-InStore.is ∙ ap (λ id. ComesToStore before (found id)) (sym c.as_slice.ensures))
    c.copy_found.ensures
