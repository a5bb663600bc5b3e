use Rattle.std.proofs.Common.{◌≡◌, ◌-◌, ◌<◌, List, ℕ, length, ap, sym, subst, arith}
use Rattle.std.specs.List.{remove}
use Rattle.region_plan.specs.Orders.{IsOrder, place_at, place_out}
use Rattle.region_plan.specs.declared.inode.Inode.{Inode}
use Rattle.region_plan.proofs.MovedLemmas.{taken_out}
use Rattle.region_plan.proofs.inodes.Inodes.without.Goals as goal

pub number_of-n-requires : goal.number_of-n-requires
number_of-n-requires c =
    let inside : c.args.place < length c.self.inside.items.items = (let same = ap length c.self.view_is in omega (arith, c.requires.place, same)) in
    subst (λ (l : List ℕ). (n : ℕ) × (n < length l) × (place_at l n ≡ c.args.place)) (sym c.deref.ensures.value) (c.self.invariant.each c.args.place inside)

pub invariant_of-result : goal.invariant_of-result
invariant_of-result c =
    let inodes = c.self.inside.items.items in
    let order = c.self.inside.order.items in
    let inside : c.args.place < length inodes = (let same = ap length c.self.view_is in omega (arith, c.requires.place, same)) in
    let stands = subst (λ (l : List ℕ). (c.number_of-n.result < length l) × (place_at l c.number_of-n.result ≡ c.args.place)) c.deref.ensures.value c.number_of-n.ensures in
    let size : c.len.result ≡ length inodes = omega (arith, c.len.ensures, c.self.inside.items.ok.0) in
    subst (λ (l : List Inode). IsOrder l c.remove.new.self.items) (sym c.remove-2.ensures.items)
    (subst (λ (l : List ℕ). IsOrder (remove inodes c.args.place) l) (sym c.remove.ensures.items)
    (taken_out inodes c.args.place inside order c.move_out.new.order.items c.self.invariant c.number_of-n.result stands.0 stands.1 c.move_out.ensures.long
    (subst (λ (m : ℕ). (k : ℕ) → k < length order → place_at c.move_out.new.order.items k ≡ place_out c.args.place (m - 1) (place_at order k)) size c.move_out.ensures.each)))
