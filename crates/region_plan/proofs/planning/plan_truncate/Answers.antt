use Rattle.std.proofs.Common.{refl}
use Rattle.region_plan.specs.Reading.{leaves_of}
use Rattle.region_plan.proofs.ResultLemmas.{truncate_none, truncate_plans}
use Rattle.region_plan.proofs.StoreLemmas.{looked_none, looked_up}
use Rattle.region_plan.proofs.planning.plan_truncate.Goals as goal
use Rattle.region_plan.specs.Layout.{layout}
use Rattle.region_plan.proofs.FormLemmas.{laid_by}
use Rattle.region_plan.specs.declared.form.Form.TheVariants.{Two}

pub returns-in_default-clause-plans : goal.returns-in_default-clause-plans
returns-in_default-clause-plans g c h first all store stands =
    let leaves = leaves_of g.L.LeafSource.keeper g.L.LeafSource.region c.args.from.now in
    truncate_none (layout Two) (laid_by Two) leaves store stands c.args.id.now c.args.length
    (looked_none (layout Two) leaves c.args.id.now c.find.result c.args.inodes.now c.args.inodes.now
    c.find.ensures.inode refl all c.in_default.is)

pub returns-clause-plans : goal.returns-clause-plans
returns-clause-plans g c h first all store stands =
    let leaves = leaves_of g.L.LeafSource.keeper g.L.LeafSource.region c.args.from.now in
    truncate_plans (layout Two) (laid_by Two) leaves store stands c.args.id.now c.in-Some.inode.now
    (looked_up (layout Two) leaves c.args.id.now c.find.result c.args.inodes.now c.args.inodes.now
    c.in-Some.inode c.find.ensures.inode refl all c.in-Some.is)
    c.args.map.now _ c.args.length first refl refl refl refl refl c.plan_content.result (c.plan_content.ensures.planned h first) c.plan_content.ensures.space c.plan_content.ensures.refused
