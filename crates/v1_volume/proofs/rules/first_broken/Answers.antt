use Rattle.std.proofs.Common.{◌∙◌, ℕ, List, find, ap, sym, arith}
use Rattle.region_plan.specs.Layout.{layout}
use Rattle.region_plan.specs.Regions.{breaks, first_broken}
use Rattle.region_plan.specs.declared.form.Form.TheVariants.{One}
use Rattle.v1_volume.specs.Checking.{leaf_in}
use Rattle.v1_volume.proofs.OldRegionLemmas.{all_numbers}
use Rattle.v1_volume.proofs.RangeLemmas.{first_is, nothing_is}
use Rattle.v1_volume.proofs.rules.first_broken.Goals as goal

pub returns-then-is_broken-clause-least : goal.returns-then-is_broken-clause-least
unfolding first_broken
returns-then-is_broken-clause-least c =
    sym (ap (λ (l : List ℕ). find (λ k. breaks (layout One) (leaf_in c.args.leaves.now) k) l) all_numbers
    ∙ first_is (λ k. breaks (layout One) (leaf_in c.args.leaves.now) k) 256 c.loop-leaf.leaf c.loop-leaf-test.true c.loop-leaf.invariant (sym c.is_broken.ensures ∙ c.if-is_broken.true))

pub returns-clause-least : goal.returns-clause-least
unfolding first_broken
returns-clause-least c =
    sym (ap (λ (l : List ℕ). find (λ k. breaks (layout One) (leaf_in c.args.leaves.now) k) l) all_numbers
    ∙ nothing_is (λ k. breaks (layout One) (leaf_in c.args.leaves.now) k) 256 (λ k low. c.loop-leaf.invariant k (omega (arith, low, c.loop-leaf-test.false))))
