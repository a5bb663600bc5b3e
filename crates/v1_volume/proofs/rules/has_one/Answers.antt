use Rattle.std.proofs.Common.{◌≡◌, ◌∙◌, ℕ, List, ap, sym, arith}
use Rattle.std.specs.Prelude.{◌==◌}
use Rattle.std.specs.List.{count_by, range_with_len}
use Rattle.region_plan.specs.Layout.{layout}
use Rattle.region_plan.specs.Entries.{is_data_at}
use Rattle.region_plan.specs.declared.form.Form.TheVariants.{One}
use Rattle.region_plan.proofs.StepLemmas.{byte_mark, marked}
use Rattle.region_plan.proofs.Totals.{mark}
use Rattle.v1_volume.specs.Checking.{leaf_in}
use Rattle.v1_volume.proofs.OldRegionLemmas.{all_numbers}
use Rattle.v1_volume.proofs.RangeLemmas.{count_more}
use Rattle.v1_volume.proofs.rules.has_one.Goals as goal

pub loop-leaf-preserved : goal.loop-leaf-preserved
loop-leaf-preserved c =
    let more = count_more (λ i. is_data_at (layout One) (leaf_in c.args.leaves.now) c.args.inode c.args.index i) c.loop-leaf.leaf in
    let was = c.loop-leaf.invariant.counted in
    let few = c.loop-leaf.invariant.few in
    let one = c.from-count.ensures ∙ byte_mark c.is_data_at.result in
    let same = ap mark c.is_data_at.ensures in
    let small = marked c.is_data_at.result in
    record { counted = omega (arith, more, was, one, same); few = omega (arith, few, one, small) }

pub returns : goal.returns
returns c =
    let all : c.loop-leaf.leaf ≡ 256 = omega (arith, c.loop-leaf-test.false, c.loop-leaf.auto.leaf-end) in
    ap (λ (n : ℕ). n == 1) (c.loop-leaf.invariant.counted
    ∙ ap (λ (n : ℕ). count_by (λ i. is_data_at (layout One) (leaf_in c.args.leaves.now) c.args.inode c.args.index i) (range_with_len 0 n)) all
    ∙ ap (λ (l : List ℕ). count_by (λ i. is_data_at (layout One) (leaf_in c.args.leaves.now) c.args.inode c.args.index i) l) (sym all_numbers))
