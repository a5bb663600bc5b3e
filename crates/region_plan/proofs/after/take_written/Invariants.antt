use Rattle.region_plan.specs.Layout.{layout}
use Rattle.region_plan.specs.declared.form.Form.TheVariants.{Two}
use Rattle.region_plan.proofs.FormLemmas.{laid_by}
use Rattle.region_plan.proofs.WrittenLemmas.{TakenBelow}
use Rattle.region_plan.proofs.after.take_written.Given as goal

-- the leaves of the map below this one are those after the writing
abbrev pub invariant-loop-leaf : goal.invariant-loop-leaf
invariant-loop-leaf l = TakenBelow (layout Two) (laid_by Two) l.named l.fn.map l.map l.leaf
