use Rattle.std.proofs.Common.{◌∙◌, ◌++◌, [], ◌∷◌, List, ℕ, length, ap, sym, subst}
use Rattle.std.specs.Prelude.{is_none}
use Rattle.std.specs.List.{insert}
use Rattle.region_plan.specs.Orders.{IsOrder, StandsAt, WouldStandAt}
use Rattle.region_plan.specs.Tables.{inode_with}
use Rattle.region_plan.specs.declared.inode.Inode.{Inode}
use Rattle.region_plan.proofs.OrderLemmas.{absent_is, stands_among}
use Rattle.region_plan.proofs.OrderedLemmas.{inserted}
use Rattle.region_plan.proofs.inodes.Inodes.with.Goals as goal

pub invariant_of-result : goal.invariant_of-result
invariant_of-result c =
    let inodes = c.self.inside.items.items in
    let order = c.self.inside.order.items in
    let n = c.in-Err.n in
    let gap : WouldStandAt inodes order c.args.inode.id n =
    subst (λ (id : List ℕ). WouldStandAt inodes order id n) c.as_slice.ensures
    (subst (λ (l : List Inode). WouldStandAt l order c.as_slice.result.now n) c.deref.ensures.value
    (subst (λ (l : List ℕ). WouldStandAt c.deref.result.now l c.as_slice.result.now n) c.deref-2.ensures.value c.in-Err.ensures.absent)) in
    let size = c.len.ensures ∙ sym c.deref.ensures.len ∙ ap length c.deref.ensures.value in
    subst (λ (l : List Inode). IsOrder l c.insert.new.self.items) (sym c.in_ok-push-in-Err.ensures.items)
    (subst (λ (l : List ℕ). IsOrder (inodes ++ c.args.inode ∷ []) l) (sym (c.in_ok-insert-in-Err.ensures.items ∙ ap (insert order n) size))
    (inserted inodes order c.self.invariant c.args.inode n gap))

pub returns-in-Ok-clause-new : goal.returns-in-Ok-clause-new
returns-in-Ok-clause-new c =
    let inodes = c.self.inside.items.items in
    let order = c.self.inside.order.items in
    let n = c.in-Ok.field-0 in
    let stands : StandsAt inodes order c.args.inode.id n =
    subst (λ (id : List ℕ). StandsAt inodes order id n) c.as_slice.ensures
    (subst (λ (l : List Inode). StandsAt l order c.as_slice.result.now n) c.deref.ensures.value
    (subst (λ (l : List ℕ). StandsAt c.deref.result.now l c.as_slice.result.now n) c.deref-2.ensures.value c.in-Ok.ensures.found)) in
    sym (ap (λ (l : List Inode). is_none (inode_with c.args.inode.id l)) (sym c.self.view_is) ∙ stands_among inodes order c.self.invariant c.args.inode.id n stands)

pub returns-in_ok-push-in-Err-clause-new : goal.returns-in_ok-push-in-Err-clause-new
returns-in_ok-push-in-Err-clause-new c =
    let inodes = c.self.inside.items.items in
    let order = c.self.inside.order.items in
    let n = c.in-Err.n in
    let gap : WouldStandAt inodes order c.args.inode.id n =
    subst (λ (id : List ℕ). WouldStandAt inodes order id n) c.as_slice.ensures
    (subst (λ (l : List Inode). WouldStandAt l order c.as_slice.result.now n) c.deref.ensures.value
    (subst (λ (l : List ℕ). WouldStandAt c.deref.result.now l c.as_slice.result.now n) c.deref-2.ensures.value c.in-Err.ensures.absent)) in
    sym (ap (λ (l : List Inode). is_none (inode_with c.args.inode.id l)) (sym c.self.view_is) ∙ ap is_none (absent_is inodes order c.self.invariant c.args.inode.id n gap))
