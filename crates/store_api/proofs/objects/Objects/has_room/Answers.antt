use Rattle.std.proofs.Common.{◌≡◌, ◌+◌, ◌-◌, ◌∙◌, ap, sym, arith, nat_le}
use Rattle.store_api.specs.Stores.{cost, blocks_for}
use Rattle.std.specs.FinMap as finite
use Rattle.store_api.proofs.Costs.{cost_at_most, cost_after}
use Rattle.store_api.proofs.objects.Objects.has_room.Goals as goal

pub overflow_sub-result : goal.overflow_sub-result
overflow_sub-result c =
    let paid = c.self.invariant.paid ∙ ap cost c.self.view_is in
    let most = cost_at_most c.args.self.now c.args.id.now in
    omega (arith, paid, most, c.cost_at.ensures)

pub returns : goal.returns
returns c = λ o is.
    let paid = c.self.invariant.paid ∙ ap cost c.self.view_is in
    let after = cost_after c.args.self.now c.args.id.now o in
    let own = c.blocks_of.ensures ∙ ap blocks_for (sym is) in
    let sum : c.self.inside.used - c.cost_at.result + c.blocks_of.result ≡ cost (finite.insert c.args.self.now c.args.id.now o) = omega (arith, paid, after, own, c.cost_at.ensures) in
    ap (λ n. nat_le n 1020) sum
