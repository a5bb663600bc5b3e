use Rattle.std.proofs.Common.{ℕ, List, rules, subst}
use Rattle.store_api.specs.Keeping.{Reads}
use Rattle.object_asks.specs.Sources.{IsObjectKey, stored_key}
use Rattle.object_asks.proofs.KeyLemmas.{tells_read}
use Rattle.object_asks.proofs.lending.from_source.Goals as goal

pub returns-in-InStore : goal.returns-in-InStore
returns-in-InStore g c =
    let t = g.T.AppStore.keeper in
    tells_read t c.in-InStore.id c.args.store.now c.read_key.new.store c.read_key.result c.tell.result _ c.tell.ensures.ok c.tell.ensures.err (search rules)
    (subst (λ (id : List ℕ). Reads t (λ store. stored_key store id) IsObjectKey c.read_key.result c.args.store.now c.read_key.new.store) c.as_slice.ensures c.read_key.ensures)
