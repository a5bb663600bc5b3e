use Rattle.std.proofs.Common.{◌∙◌, sym, arith}
use Rattle.std.specs.Prelude.{◌&&◌}
use Rattle.std.specs.Str.{bytes_eq}
use Rattle.region_plan.specs.Layout.{layout}
use Rattle.region_plan.specs.Entries.{is_inode}
use Rattle.region_plan.specs.Inodes.{identifier_in}
use Rattle.region_plan.specs.Regions.{is_doubled}
use Rattle.region_plan.specs.declared.form.Form.TheVariants.{One}
use Rattle.v1_volume.specs.Checking.{leaf_in}
use Rattle.v1_volume.proofs.RangeLemmas.{any_is, none_is}
use Rattle.v1_volume.proofs.rules.is_doubled.Goals as goal

pub returns-then-is_same : goal.returns-then-is_same
unfolding is_doubled
returns-then-is_same c =
    sym (any_is (λ k. is_inode (layout One) (leaf_in c.args.leaves.now) k && bytes_eq (identifier_in (leaf_in c.args.leaves.now k)) (identifier_in (leaf_in c.args.leaves.now c.args.inode)))
    c.args.inode c.loop-other.other c.loop-other-test.true (sym c.is_same.ensures ∙ c.if-is_same.true))

pub returns : goal.returns
unfolding is_doubled
returns c =
    sym (none_is (λ k. is_inode (layout One) (leaf_in c.args.leaves.now) k && bytes_eq (identifier_in (leaf_in c.args.leaves.now k)) (identifier_in (leaf_in c.args.leaves.now c.args.inode)))
    c.args.inode (λ k low. c.loop-other.invariant k (omega (arith, low, c.loop-other-test.false))))
