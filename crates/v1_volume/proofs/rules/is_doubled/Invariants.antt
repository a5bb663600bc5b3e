use Rattle.std.proofs.Common.{◌≡◌, ℕ, ◌<◌, false}
use Rattle.std.specs.Prelude.{◌&&◌}
use Rattle.std.specs.Str.{bytes_eq}
use Rattle.region_plan.specs.Layout.{layout}
use Rattle.region_plan.specs.Entries.{is_inode}
use Rattle.region_plan.specs.Inodes.{identifier_in}
use Rattle.region_plan.specs.declared.form.Form.TheVariants.{One}
use Rattle.v1_volume.specs.Checking.{leaf_in}
use Rattle.v1_volume.proofs.rules.is_doubled.Given as goal

-- none below has the identifier
abbrev pub invariant-loop-other : goal.invariant-loop-other
invariant-loop-other l = (k : ℕ) → k < l.other → (is_inode (layout One) (leaf_in l.leaves) k && bytes_eq (identifier_in (leaf_in l.leaves k)) (identifier_in (leaf_in l.leaves l.inode))) ≡ false
