use Rattle.std.proofs.Common.{◌≡◌, ℕ, ◌<◌, false}
use Rattle.region_plan.specs.Layout.{layout}
use Rattle.region_plan.specs.Regions.{breaks}
use Rattle.region_plan.specs.declared.form.Form.TheVariants.{One}
use Rattle.v1_volume.specs.Checking.{leaf_in}
use Rattle.v1_volume.proofs.rules.first_broken.Given as goal

-- no leaf below breaks a rule
abbrev pub invariant-loop-leaf : goal.invariant-loop-leaf
invariant-loop-leaf l = (k : ℕ) → k < l.leaf → breaks (layout One) (leaf_in l.leaves) k ≡ false
