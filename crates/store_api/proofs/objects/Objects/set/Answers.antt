use Rattle.std.proofs.Common.{◌+◌, ◌-◌, ◌∙◌, ap, arith}
use Rattle.store_api.specs.Stores.{cost, blocks_for}
use Rattle.std.specs.FinMap as finite
use Rattle.store_api.proofs.Costs.{cost_at_most, cost_after}
use Rattle.store_api.proofs.Named.{AreOf, are_inserted}
use Rattle.store_api.proofs.objects.Objects.set.Goals as goal

pub overflow_sub-used : goal.overflow_sub-used
overflow_sub-used c =
    let paid = c.self.invariant.paid ∙ ap cost c.self.view_is in
    let most = cost_at_most c.args.self.now c.args.id.now in
    omega (arith, paid, most, c.cost_at.ensures)

done : (c : goal.After-self-1) → AreOf c.insert.new.self.entries (c.self.inside.used - c.cost_at.result + c.blocks_of.result) (finite.insert c.args.self.now c.args.id.now c.args.object)
done c =
    let paid = c.self.invariant.paid ∙ ap cost c.self.view_is in
    let after = cost_after c.args.self.now c.args.id.now c.args.object in
    let own = c.blocks_of.ensures ∙ ap blocks_for c.len.ensures in
    are_inserted c.self.inside.map.entries c.insert.new.self.entries c.in_ok-key.key c.args.id.now c.args.object c.args.self.now c.self.inside.used _
    c.self.invariant c.self.view_is c.in_ok-key.ensures.items c.in_ok-insert.ensures.entries c.requires.id c.requires.secret c.requires.room
    (omega (arith, paid, after, own, c.cost_at.ensures))

pub invariant_of-self-2 : goal.invariant_of-self-2
invariant_of-self-2 c = (done c).kept

pub returns-clause-ok : goal.returns-clause-ok
returns-clause-ok c = (done c).store
