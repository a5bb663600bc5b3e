use Rattle.std.proofs.Common.{◌≡◌, ℕ, ◌<◌, false}
use Rattle.region_plan.specs.Layout.{layout}
use Rattle.region_plan.specs.Regions.{is_past}
use Rattle.region_plan.specs.declared.form.Form.TheVariants.{One}
use Rattle.v1_volume.specs.Checking.{leaf_in}
use Rattle.v1_volume.proofs.rules.has_past.Given as goal

-- none below is past the end
abbrev pub invariant-loop-leaf : goal.invariant-loop-leaf
invariant-loop-leaf l = (k : ℕ) → k < l.leaf → is_past (layout One) (leaf_in l.leaves) l.inode k ≡ false
