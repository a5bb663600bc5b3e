use Rattle.region_plan.proofs.StepLemmas.{SoFar}
use Rattle.region_plan.proofs.place.with_data.Given as goal
use Rattle.region_plan.specs.Layout.{layout}
use Rattle.region_plan.proofs.FormLemmas.{laid_by}
use Rattle.region_plan.specs.declared.form.Form.TheVariants.{Two}

abbrev pub invariant-loop-leaf : goal.invariant-loop-leaf
invariant-loop-leaf l = SoFar (layout Two) (laid_by Two) l.map l.after l.inode l.kept l.blocks l.index l.leaf
