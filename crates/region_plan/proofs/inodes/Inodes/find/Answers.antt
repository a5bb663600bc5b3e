use Rattle.std.proofs.Common.{◌∙◌, ap, sym, subst}
use Rattle.std.proofs.Common.{List, ℕ}
use Rattle.std.specs.Slice.{IsItemAt}
use Rattle.region_plan.specs.Orders.{StandsAt, WouldStandAt}
use Rattle.region_plan.specs.Tables.{inode_with}
use Rattle.region_plan.specs.declared.inode.Inode.{Inode}
use Rattle.region_plan.proofs.OrderLemmas.{absent_is, placed_is, standing_is}
use Rattle.region_plan.proofs.inodes.Inodes.find.Goals as goal

pub returns-in-Ok : goal.returns-in-Ok
returns-in-Ok c =
    let inodes = c.self.inside.items.items in
    let order = c.self.inside.order.items in
    let stands : StandsAt inodes order c.args.id.now c.in-Ok.n =
    subst (λ (l : List Inode). StandsAt l order c.args.id.now c.in-Ok.n) c.deref.ensures.value
    (subst (λ (l : List ℕ). StandsAt c.deref.result.now l c.args.id.now c.in-Ok.n) c.deref-2.ensures.value c.in-Ok.ensures.found) in
    standing_is inodes order c.self.invariant c.args.id.now c.in-Ok.n c.index.result.now c.get.result stands
    (placed_is order c.in-Ok.n c.index.result.now stands.inside c.index.ensures)
    (subst (λ (l : List Inode). IsItemAt l c.index.result.now c.get.result) c.deref-in-Ok.ensures.value c.get.ensures.lookup)
    ∙ ap (inode_with c.args.id.now) c.self.view_is

pub returns-in-Err : goal.returns-in-Err
returns-in-Err c =
    let inodes = c.self.inside.items.items in
    let order = c.self.inside.order.items in
    let gap : WouldStandAt inodes order c.args.id.now c.in-Err.field-0 =
    subst (λ (l : List Inode). WouldStandAt l order c.args.id.now c.in-Err.field-0) c.deref.ensures.value
    (subst (λ (l : List ℕ). WouldStandAt c.deref.result.now l c.args.id.now c.in-Err.field-0) c.deref-2.ensures.value c.in-Err.ensures.absent) in
    sym (absent_is inodes order c.self.invariant c.args.id.now c.in-Err.field-0 gap) ∙ ap (inode_with c.args.id.now) c.self.view_is
