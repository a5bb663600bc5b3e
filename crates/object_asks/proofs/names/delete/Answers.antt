use Rattle.std.proofs.Common.{rules, true}
use Rattle.object_asks.specs.Held.{handle_closed}
use Rattle.object_asks.proofs.ServingLemmas.{serves_told}
use Rattle.object_asks.proofs.names.delete.Goals as goal

pub returns : goal.returns
returns g c =
    serves_told g.T.AppStore.keeper c.delete_through.result c.told.result _ _ true c.args.held.now (handle_closed c.args.held.now c.args.instance c.args.object)
    c.delete_through.new.held c.args.store.now c.delete_through.new.store c.told.ensures.ok c.told.ensures.err (search rules) c.delete_through.ensures
