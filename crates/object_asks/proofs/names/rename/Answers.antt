use Rattle.std.proofs.Common.{rules, true}
use Rattle.object_asks.proofs.ServingLemmas.{serves_told}
use Rattle.object_asks.proofs.names.rename.Goals as goal

pub returns : goal.returns
returns g c =
    serves_told g.T.AppStore.keeper c.rename_object.result c.told.result _ _ true c.args.held.now c.args.held.now c.rename_object.new.held c.args.store.now
    c.rename_object.new.store c.told.ensures.ok c.told.ensures.err (search rules) c.rename_object.ensures
