use Rattle.std.proofs.Common.{rules, false}
use Rattle.object_asks.proofs.ServingLemmas.{serves_told}
use Rattle.object_asks.proofs.enumerating.next.Goals as goal

pub returns-in_ok-last-in-Some-Started : goal.returns-in_ok-last-in-Some-Started
returns-in_ok-last-in-Some-Started g c =
    serves_told g.T.AppStore.keeper c.go_on.result c.told.result _ _ false c.args.held.now c.args.held.now c.go_on.new.held c.args.store.now c.go_on.new.store c.told.ensures.ok
    c.told.ensures.err (search rules) c.go_on.ensures
