use Rattle.std.proofs.Common.{◌≡◌, ℕ, ◌<◌, true}
use Rattle.region_plan.specs.Layout.{layout}
use Rattle.region_plan.specs.Regions.{has_one}
use Rattle.region_plan.specs.declared.form.Form.TheVariants.{One}
use Rattle.v1_volume.specs.Checking.{leaf_in}
use Rattle.v1_volume.proofs.rules.has_data.Given as goal

-- each index below is there once
abbrev pub invariant-loop-index : goal.invariant-loop-index
invariant-loop-index l = (k : ℕ) → k < l.index → has_one (layout One) (leaf_in l.leaves) l.inode k ≡ true
