use Rattle.region_plan.specs.Places.{entries_in}
use Rattle.region_plan.proofs.StepLemmas.{none_before, none_more}
use Rattle.region_plan.proofs.place.first_free.Goals as goal
use Rattle.region_plan.specs.Layout.{layout}
use Rattle.region_plan.proofs.FormLemmas.{laid_by}
use Rattle.region_plan.specs.declared.form.Form.TheVariants.{Two}

pub loop-leaf-init : goal.loop-leaf-init
loop-leaf-init c = none_before (layout Two) (laid_by Two) (entries_in c.args.map.now)

pub loop-leaf-preserved : goal.loop-leaf-preserved
loop-leaf-preserved c =
    none_more (layout Two) (laid_by Two) (entries_in c.args.map.now) c.loop-leaf.leaf c.is_free.result c.entry_in.result c.loop-leaf.invariant c.entry_in.ensures c.is_free.ensures
    c.if-is_free.false
