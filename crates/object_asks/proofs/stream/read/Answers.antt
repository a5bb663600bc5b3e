use Rattle.std.proofs.Common.{rules, false}
use Rattle.object_asks.proofs.ServingLemmas.{serves_told}
use Rattle.object_asks.proofs.stream.read.Goals as goal

pub returns : goal.returns
returns g c =
    serves_told g.T.AppStore.keeper c.read_on.result c.told.result _ _ false c.args.held.now c.args.held.now c.read_on.new.held c.args.store.now c.read_on.new.store
    c.told.ensures.ok c.told.ensures.err (search rules) c.read_on.ensures
