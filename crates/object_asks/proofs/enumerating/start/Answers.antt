use Rattle.std.proofs.Common.{rules, false}
use Rattle.object_asks.proofs.ServingLemmas.{serves_told}
use Rattle.object_asks.proofs.enumerating.start.Goals as goal

pub returns : goal.returns
returns g c =
    serves_told g.T.AppStore.keeper c.start_found.result c.told.result _ _ false c.args.held.now c.args.held.now c.start_found.new.held c.args.store.now c.start_found.new.store
    c.told.ensures.ok c.told.ensures.err (search rules) c.start_found.ensures
