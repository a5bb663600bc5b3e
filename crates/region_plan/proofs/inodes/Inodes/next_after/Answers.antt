use Rattle.std.proofs.Common.{◌∙◌, ◌<◌, ap, sym, subst, option_copied, List, ℕ, arith, length}
use Rattle.std.specs.Slice.{IsItemAt}
use Rattle.region_plan.specs.Orders.{IsNext}
use Rattle.region_plan.specs.Tables.{best_after}
use Rattle.region_plan.specs.declared.inode.Inode.{Inode}
use Rattle.region_plan.proofs.OrderLemmas.{placed_is}
use Rattle.region_plan.proofs.OrderedLemmas.{next_is, next_none}
use Rattle.region_plan.proofs.inodes.Inodes.next_after.Goals as goal

pub returns-then-next-len : goal.returns-then-next-len
returns-then-next-len c =
    let inodes = c.self.inside.items.items in
    let order = c.self.inside.order.items in
    let next : IsNext inodes order (option_copied c.args.last) c.next_number-next.result =
    subst (λ (l : List Inode). IsNext l order (option_copied c.args.last) c.next_number-next.result) c.deref.ensures.value
    (subst (λ (l : List ℕ). IsNext c.deref.result.now l (option_copied c.args.last) c.next_number-next.result) c.deref-2.ensures.value c.next_number-next.ensures) in
    let low : c.next_number-next.result < length order = omega (arith, c.if-next-len.true, c.len.ensures) in
    next_is inodes order c.self.invariant (option_copied c.args.last) c.next_number-next.result c.index.result.now c.get.result next low
    (placed_is order c.next_number-next.result c.index.result.now low c.index.ensures)
    (subst (λ (l : List Inode). IsItemAt l c.index.result.now c.get.result) c.deref-then-next-len.ensures.value c.get.ensures.lookup)
    ∙ ap (best_after (option_copied c.args.last)) c.self.view_is

pub returns-else-next-len : goal.returns-else-next-len
returns-else-next-len c =
    let inodes = c.self.inside.items.items in
    let order = c.self.inside.order.items in
    let next : IsNext inodes order (option_copied c.args.last) c.next_number-next.result =
    subst (λ (l : List Inode). IsNext l order (option_copied c.args.last) c.next_number-next.result) c.deref.ensures.value
    (subst (λ (l : List ℕ). IsNext c.deref.result.now l (option_copied c.args.last) c.next_number-next.result) c.deref-2.ensures.value c.next_number-next.ensures) in
    sym (next_none inodes order c.self.invariant (option_copied c.args.last) c.next_number-next.result next (omega (arith, c.if-next-len.false, c.len.ensures)))
    ∙ ap (best_after (option_copied c.args.last)) c.self.view_is
