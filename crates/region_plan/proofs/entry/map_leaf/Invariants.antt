use Rattle.region_plan.specs.Layout.{layout}
use Rattle.region_plan.proofs.MapLemmas.{WrittenSoFar}
use Rattle.region_plan.proofs.entry.map_leaf.Given as goal
use Rattle.region_plan.specs.declared.form.Form.TheVariants.{Two}

-- the entries before this one are written
abbrev pub invariant-loop-place : goal.invariant-loop-place
invariant-loop-place l = WrittenSoFar (layout Two) l.map l.leaf l.block l.place
