use Rattle.std.proofs.Common.{◌≡◌, ◌≤◌, ◌<◌, ◌∙◌, List, ℕ, length, ap, sym, subst, arith}
use Rattle.std.specs.Prelude.{is_none}
use Rattle.std.specs.List.{insert}
use Rattle.region_plan.specs.Orders.{IsOrder, StandsAt, WouldStandAt, place_at, place_in}
use Rattle.region_plan.specs.Tables.{inode_with}
use Rattle.region_plan.specs.declared.inode.Inode.{Inode}
use Rattle.region_plan.proofs.MovedLemmas.{put_among}
use Rattle.region_plan.proofs.OrderLemmas.{absent_is, stands_among}
use Rattle.region_plan.proofs.inodes.Inodes.with_at.Goals as goal

pub invariant_of-result : goal.invariant_of-result
invariant_of-result c =
    let inodes = c.self.inside.items.items in
    let order = c.self.inside.order.items in
    let n = c.in-Err.n in
    let gap : WouldStandAt inodes order c.args.inode.id n =
    subst (λ (id : List ℕ). WouldStandAt inodes order id n) c.as_slice.ensures
    (subst (λ (l : List Inode). WouldStandAt l order c.as_slice.result.now n) c.deref.ensures.value
    (subst (λ (l : List ℕ). WouldStandAt c.deref.result.now l c.as_slice.result.now n) c.deref-2.ensures.value c.in-Err.ensures.absent)) in
    let size : c.len-last.result ≡ length inodes = c.len-last.ensures ∙ sym c.deref.ensures.len ∙ ap length c.deref.ensures.value in
    let wide : c.insert.new.self.items ≡ insert order n (length inodes) = c.in_ok-insert-in-Err.ensures.items ∙ ap (insert order n) size in
    let inside : c.args.place ≤ length inodes = (let same = ap length c.self.view_is in omega (arith, c.requires.place, same)) in
    subst (λ (l : List Inode). IsOrder l c.move_in.new.order.items) (sym c.in_ok-insert-in-Err-2.ensures.items)
    (put_among inodes order c.move_in.new.order.items c.self.invariant c.args.inode n c.args.place gap inside (c.move_in.ensures.long ∙ ap length wide)
    (subst (λ (l : List ℕ). (k : ℕ) → k < length l → place_at c.move_in.new.order.items k ≡ place_in (length inodes) c.args.place (place_at l k)) wide
    (subst (λ (m : ℕ). (k : ℕ) → k < length c.insert.new.self.items → place_at c.move_in.new.order.items k ≡ place_in m c.args.place (place_at c.insert.new.self.items k)) size
    c.move_in.ensures.each)))

pub returns-in-Ok-clause-new : goal.returns-in-Ok-clause-new
returns-in-Ok-clause-new c =
    let inodes = c.self.inside.items.items in
    let order = c.self.inside.order.items in
    let n = c.in-Ok.field-0 in
    let stands : StandsAt inodes order c.args.inode.id n =
    subst (λ (id : List ℕ). StandsAt inodes order id n) c.as_slice.ensures
    (subst (λ (l : List Inode). StandsAt l order c.as_slice.result.now n) c.deref.ensures.value
    (subst (λ (l : List ℕ). StandsAt c.deref.result.now l c.as_slice.result.now n) c.deref-2.ensures.value c.in-Ok.ensures.found)) in
    sym (ap (λ (l : List Inode). is_none (inode_with c.args.inode.id l)) (sym c.self.view_is) ∙ stands_among inodes order c.self.invariant c.args.inode.id n stands)

pub returns-in_ok-insert-in-Err-2-clause-new : goal.returns-in_ok-insert-in-Err-2-clause-new
returns-in_ok-insert-in-Err-2-clause-new c =
    let inodes = c.self.inside.items.items in
    let order = c.self.inside.order.items in
    let n = c.in-Err.n in
    let gap : WouldStandAt inodes order c.args.inode.id n =
    subst (λ (id : List ℕ). WouldStandAt inodes order id n) c.as_slice.ensures
    (subst (λ (l : List Inode). WouldStandAt l order c.as_slice.result.now n) c.deref.ensures.value
    (subst (λ (l : List ℕ). WouldStandAt c.deref.result.now l c.as_slice.result.now n) c.deref-2.ensures.value c.in-Err.ensures.absent)) in
    sym (ap (λ (l : List Inode). is_none (inode_with c.args.inode.id l)) (sym c.self.view_is) ∙ ap is_none (absent_is inodes order c.self.invariant c.args.inode.id n gap))
