use Rattle.std.proofs.Common.{rules, false}
use Rattle.object_asks.proofs.ServingLemmas.{serves_told}
use Rattle.object_asks.proofs.names.info.Goals as goal

pub returns-in_ok-id-in-Some-Persistent : goal.returns-in_ok-id-in-Some-Persistent
returns-in_ok-id-in-Some-Persistent g c =
    serves_told g.T.AppStore.keeper c.info_found.result c.told.result _ _ false c.args.held.now c.args.held.now c.info_found.new.held c.args.store.now c.info_found.new.store
    c.told.ensures.ok c.told.ensures.err (search rules) c.info_found.ensures
