use Rattle.std.proofs.Common.{rules, true}
use Rattle.object_asks.proofs.ServingLemmas.{serves_told}
use Rattle.object_asks.proofs.stream.write.Goals as goal

pub returns : goal.returns
returns g c =
    serves_told g.T.AppStore.keeper c.write_through.result c.told.result _ _ true c.args.held.now c.args.held.now c.write_through.new.held c.args.store.now
    c.write_through.new.store c.told.ensures.ok c.told.ensures.err (search rules) c.write_through.ensures
