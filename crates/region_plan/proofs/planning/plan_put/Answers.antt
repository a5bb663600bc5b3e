use Rattle.std.proofs.Common.{◌≡◌, Bool, length, refl, sym, subst}
use Rattle.store_api.specs.declared.answer.StoreAnswer.TheVariants as answers
use Rattle.store_api.specs.declared.change.Change.TheVariants.{Put}
use Rattle.region_plan.specs.Quotas.{change_in}
use Rattle.std.proofs.Common.{Err}
use Rattle.region_plan.specs.Planning.{Plans}
use Rattle.region_plan.specs.Reading.{leaves_of}
use Rattle.region_plan.proofs.ResultLemmas.{put_exists, put_over_plans, put_new_plans}
use Rattle.region_plan.proofs.StoreLemmas.{looked_none, looked_up}
use Rattle.region_plan.proofs.planning.plan_put.Goals as goal
use Rattle.region_plan.specs.Layout.{layout}
use Rattle.region_plan.proofs.FormLemmas.{laid_by}
use Rattle.region_plan.specs.declared.form.Form.TheVariants.{Two}

pub returns-then-not-overwrite-clause-plans : goal.returns-then-not-overwrite-clause-plans
returns-then-not-overwrite-clause-plans g c h first all store stands =
    let leaves = leaves_of g.L.LeafSource.keeper g.L.LeafSource.region c.args.from.now in
    subst (λ (b : Bool). change_in (layout Two) store (Put c.args.head.id.now c.args.head.kind c.args.head.usage c.args.head.secret.now c.args.content.now b) ≡ Err answers.Exists)
    (sym c.if-not-overwrite.true)
    (put_exists (layout Two) (laid_by Two) leaves store stands c.args.head.id.now c.in-Some.inode.now
    (looked_up (layout Two) leaves c.args.head.id.now c.find.result c.args.inodes.now c.args.inodes.now
    c.in-Some.inode c.find.ensures.inode refl all c.in-Some.is)
    c.args.head.kind c.args.head.usage c.args.head.secret.now c.args.content.now)

pub returns-else-not-overwrite-clause-plans : goal.returns-else-not-overwrite-clause-plans
returns-else-not-overwrite-clause-plans g c h first all store stands =
    let leaves = leaves_of g.L.LeafSource.keeper g.L.LeafSource.region c.args.from.now in
    subst (λ (b : Bool). Plans (layout Two) (leaves_of g.L.LeafSource.keeper g.L.LeafSource.region c.args.from.now) store
    (Put c.args.head.id.now c.args.head.kind c.args.head.usage c.args.head.secret.now c.args.content.now b) c.plan_edit.result) (sym c.if-not-overwrite.false)
    (put_over_plans (layout Two) (laid_by Two) leaves store stands c.args.head.id.now c.in-Some.inode.now
    (looked_up (layout Two) leaves c.args.head.id.now c.find.result c.args.inodes.now c.args.inodes.now
    c.in-Some.inode c.find.ensures.inode refl all c.in-Some.is)
    c.args.map.now first c.args.head.kind c.args.head.usage c.args.head.secret.now c.args.content.now
    (record { had = c.in-Some.inode.now.length; kept = 0; at = 0; bytes = c.args.content; length = length c.args.content.now }) refl refl refl refl refl c.inode_block.result c.inode_block.ensures
    c.plan_edit.result (c.plan_edit.ensures.planned h first) c.plan_edit.ensures.space c.plan_edit.ensures.refused)

pub returns-in-None-clause-plans : goal.returns-in-None-clause-plans
returns-in-None-clause-plans g c h first all store stands =
    let leaves = leaves_of g.L.LeafSource.keeper g.L.LeafSource.region c.args.from.now in
    put_new_plans (layout Two) (laid_by Two) leaves store stands c.args.head
    (looked_none (layout Two) leaves c.args.head.id.now c.find.result c.args.inodes.now c.args.inodes.now c.find.ensures.inode refl all c.in-None.is)
    c.args.map.now first c.args.content.now c.args.overwrite (record { had = 0; kept = 0; at = 0; bytes = c.args.content; length = length c.args.content.now }) refl refl refl refl refl
    c.plan_new.result (c.plan_new.ensures.planned h first) c.plan_new.ensures.space c.plan_new.ensures.refused
