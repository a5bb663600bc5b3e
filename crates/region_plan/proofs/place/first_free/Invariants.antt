use Rattle.std.proofs.Common.{◌≡◌}
use Rattle.region_plan.specs.Places.{entries_in, free_before}
use Rattle.region_plan.proofs.place.first_free.Given as goal
use Rattle.region_plan.specs.Layout.{layout}
use Rattle.region_plan.specs.declared.form.Form.TheVariants.{Two}

abbrev pub invariant-loop-leaf : goal.invariant-loop-leaf
invariant-loop-leaf l = free_before (layout Two) (entries_in l.map) l.leaf ≡ 0
