use Rattle.std.proofs.Common.{rules, true}
use Rattle.object_asks.proofs.ServingLemmas.{serves_told}
use Rattle.object_asks.proofs.opening.create_by.Goals as goal

pub returns : goal.returns
returns g c =
    serves_told g.T.AppStore.keeper c.create_with.result c.told.result _ _ true c.args.held.now c.args.held.now c.create_with.new.held c.args.store.now c.create_with.new.store
    c.told.ensures.ok c.told.ensures.err (search rules) c.create_with.ensures
