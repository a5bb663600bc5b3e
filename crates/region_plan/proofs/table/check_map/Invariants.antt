use Rattle.std.proofs.Common.{◌≡◌, ◌<◌, ℕ, true}
use Rattle.region_plan.specs.Layout.{layout}
use Rattle.region_plan.specs.Entries.{follows}
use Rattle.region_plan.specs.Places.{entries_in}
use Rattle.region_plan.proofs.table.check_map.Given as goal

-- the entries below the leaf follow the rules
abbrev pub invariant-loop-leaf : goal.invariant-loop-leaf
invariant-loop-leaf l = (i : ℕ) → i < l.leaf → follows (layout l.form) (entries_in l.map) i ≡ true
