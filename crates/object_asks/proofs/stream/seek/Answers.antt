use Rattle.std.proofs.Common.{rules, false}
use Rattle.object_asks.specs.Asks.{moved_by}
use Rattle.object_asks.specs.Serving.{objects_in}
use Rattle.object_asks.proofs.ServingLemmas.{serves_here, serves_told}
use Rattle.object_asks.proofs.stream.seek.Goals as goal

pub returns-in_ok-id-in-2 : goal.returns-in_ok-id-in-2
returns-in_ok-id-in-2 g c =
    serves_told g.T.AppStore.keeper c.move_from_end.result c.told.result _ _ false c.args.held.now c.args.held.now c.move_from_end.new.held c.args.store.now
    c.move_from_end.new.store c.told.ensures.ok c.told.ensures.err (search rules) c.move_from_end.ensures

pub returns-in-0 : goal.returns-in-0
returns-in-0 g c =
    let t = g.T.AppStore.keeper in
    let before = objects_in c.args.held.now (t.contents c.args.store.now) in
    serves_here t c.plain.result c.move_from.result _ (moved_by before c.args.instance c.args.object 0 c.args.offset) false c.args.held.now c.move_from.new.held c.args.store.now
    c.plain.ensures (search rules) (search rules)

pub returns-in-1 : goal.returns-in-1
returns-in-1 g c =
    let t = g.T.AppStore.keeper in
    let before = objects_in c.args.held.now (t.contents c.args.store.now) in
    serves_here t c.plain-in-1.result c.move_from-in-1.result _ (moved_by before c.args.instance c.args.object c.in-Some-Persistent.position c.args.offset) false
    c.args.held.now c.move_from-in-1.new.held c.args.store.now c.plain-in-1.ensures (search rules) (search rules)
