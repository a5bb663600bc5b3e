use Rattle.std.proofs.Common.{◌∙◌, ℕ, List, ap, sym, arith}
use Rattle.std.specs.List.{list_any}
use Rattle.region_plan.specs.Layout.{layout}
use Rattle.region_plan.specs.Regions.{is_past}
use Rattle.region_plan.specs.declared.form.Form.TheVariants.{One}
use Rattle.v1_volume.specs.Checking.{leaf_in}
use Rattle.v1_volume.proofs.OldRegionLemmas.{all_numbers}
use Rattle.v1_volume.proofs.RangeLemmas.{any_is, none_is}
use Rattle.v1_volume.proofs.rules.has_past.Goals as goal

pub returns-then-is_past : goal.returns-then-is_past
returns-then-is_past c =
    sym (ap (λ (l : List ℕ). list_any (λ k. is_past (layout One) (leaf_in c.args.leaves.now) c.args.inode k) l) all_numbers
    ∙ any_is (λ k. is_past (layout One) (leaf_in c.args.leaves.now) c.args.inode k) 256 c.loop-leaf.leaf c.loop-leaf-test.true (sym c.is_past.ensures ∙ c.if-is_past.true))

pub returns : goal.returns
returns c =
    sym (ap (λ (l : List ℕ). list_any (λ k. is_past (layout One) (leaf_in c.args.leaves.now) c.args.inode k) l) all_numbers
    ∙ none_is (λ k. is_past (layout One) (leaf_in c.args.leaves.now) c.args.inode k) 256 (λ k low. c.loop-leaf.invariant k (omega (arith, low, c.loop-leaf-test.false))))
