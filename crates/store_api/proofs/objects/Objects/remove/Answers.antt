use Rattle.std.proofs.Common.{◌-◌, ◌∙◌, ap, arith}
use Rattle.std.specs.FinMap as finite
use Rattle.store_api.specs.Stores.{cost}
use Rattle.store_api.proofs.Costs.{cost_at_most, cost-remove}
use Rattle.store_api.proofs.Named.{AreOf, are_removed}
use Rattle.store_api.proofs.objects.Objects.remove.Goals as goal

pub overflow_sub-used : goal.overflow_sub-used
overflow_sub-used c =
    let paid = c.self.invariant.paid ∙ ap cost c.self.view_is in
    let most = cost_at_most c.args.self.now c.args.id.now in
    omega (arith, paid, most, c.cost_at.ensures)

done : (c : goal.Joined-object) → AreOf c.remove-object.new.self.entries (c.self.inside.used - c.cost_at.result) (finite.remove c.args.self.now c.args.id.now)
done c =
    let paid = c.self.invariant.paid ∙ ap cost c.self.view_is in
    let left = cost-remove c.args.self.now c.args.id.now in
    are_removed c.self.inside.map.entries c.remove-object.new.self.entries c.args.id.now c.args.self.now c.self.inside.used _
    c.self.invariant c.self.view_is c.remove-object.ensures.entries (omega (arith, paid, left, c.cost_at.ensures))

pub invariant_of-self : goal.invariant_of-self
invariant_of-self c = (done c).kept

pub returns : goal.returns
returns c = record { removed = (done c).store; quota = (done c).kept.limits.paid }
