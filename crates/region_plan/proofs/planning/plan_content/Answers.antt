use Rattle.std.proofs.Common.{◌≡◌, ℕ, true, Option, List, sym, subst}
use Rattle.store_api.specs.declared.leaves.Leaf.{Leaf}
use Rattle.region_plan.specs.Inodes.{inode_of, is_inode_leaf, IsHead}
use Rattle.region_plan.specs.Plans.{IsContentPlan, IsPlanned, bytes_or}
use Rattle.region_plan.specs.Reading.{leaves_of}
use Rattle.region_plan.proofs.ContentLemmas.{if_ok}
use Rattle.region_plan.proofs.FoundLemmas.{told_head, head_as}
use Rattle.region_plan.proofs.planning.plan_content.Goals as goal
use Rattle.region_plan.proofs.planning.plan_content.Goals.{then-edit-inode, else-edit-inode}
use Rattle.region_plan.specs.Layout.{layout}
use Rattle.region_plan.proofs.FormLemmas.{laid_by}
use Rattle.region_plan.specs.declared.form.Form.TheVariants.{Two}

pub returns-clause-planned : goal.returns-clause-planned
returns-clause-planned g c h first =
    let leaves = leaves_of g.L.LeafSource.keeper g.L.LeafSource.region c.args.from.now in
    let says : is_inode_leaf (leaves c.args.inode.now.number) ≡ true → c.args.inode.now ≡ inode_of c.args.inode.now.number (leaves c.args.inode.now.number)
    → IsHead (bytes_or c.if-edit-inode.head (leaves c.args.inode.now.number)) c.args.inode.now.kind c.args.inode.now.usage c.args.inode.now.id c.args.inode.now.secret
    c.args.edit.length = λ rules told.
    elim c.if-edit-inode.branch [
      | then-edit-inode w ↦
          subst (λ (o : Option (List ℕ)). IsHead (bytes_or o (leaves c.args.inode.now.number)) c.args.inode.now.kind c.args.inode.now.usage c.args.inode.now.id
          c.args.inode.now.secret c.args.edit.length) (sym w.head-is)
          (told_head (layout Two) (laid_by Two) c.args.inode.now.number (leaves c.args.inode.now.number) c.args.inode.now c.args.edit.length told rules w.if-edit-inode.true)
      | else-edit-inode w ↦
          subst (λ (o : Option (List ℕ)). IsHead (bytes_or o (leaves c.args.inode.now.number)) c.args.inode.now.kind c.args.inode.now.usage c.args.inode.now.id
          c.args.inode.now.secret c.args.edit.length) (sym w.head-is)
          (head_as w.inode_block.result w.head.result.kind c.args.inode.now.kind w.head.result.usage c.args.inode.now.usage w.head.result.id.now c.args.inode.now.id
          w.head.result.secret.now c.args.inode.now.secret c.args.edit.length
          w.head.ensures.kind w.head.ensures.usage w.head.ensures.id w.head.ensures.secret w.inode_block.ensures)
    ] in
    if_ok c.plan_edit.result (λ (named : List Leaf). IsPlanned (layout Two) leaves c.args.map.now c.args.inode.now.number c.if-edit-inode.head c.args.edit named)
    (λ (named : List Leaf). IsContentPlan (layout Two) leaves c.args.map.now c.args.inode.now c.args.edit named)
    (λ named planned. record { head = c.if-edit-inode.head; planned = planned; says = says }) (c.plan_edit.ensures.planned h first)
