use Rattle.std.proofs.Common.{◌≡◌, ◌∙◌, true, not, ap, sym, arith, below_more}
use Rattle.std.specs.Prelude.{◌&&◌}
use Rattle.std.specs.List.{list_any}
use Rattle.std.proofs.lemmas.Bool.{and_left}
use Rattle.region_plan.specs.Layout.{layout}
use Rattle.region_plan.specs.Inodes.{length_in}
use Rattle.region_plan.specs.Regions.{data_leaves, has_data, has_one, is_past, numbers}
use Rattle.region_plan.specs.declared.form.Form.TheVariants.{One}
use Rattle.v1_volume.specs.Checking.{leaf_in}
use Rattle.v1_volume.proofs.RangeLemmas.{all_isnt, each_is}
use Rattle.v1_volume.proofs.rules.has_data.Goals as goal

pub returns-then-not-has_one : goal.returns-then-not-has_one
unfolding has_data
returns-then-not-has_one c =
    let leaves = leaf_in c.args.leaves.now in
    let end : c.blocks-index-end.result ≡ data_leaves (length_in (leaf_in c.args.leaves.now c.args.inode)) = c.blocks-index-end.ensures ∙ ap data_leaves c.content_length.ensures in
    sym (and_left _ _ (all_isnt (λ k. has_one (layout One) (leaf_in c.args.leaves.now) c.args.inode k) (data_leaves (length_in (leaf_in c.args.leaves.now c.args.inode))) c.loop-index.index
    (omega (arith, end, c.loop-index-test.true)) (sym c.has_one.ensures ∙ c.if-not-has_one.true)))

pub loop-index-preserved : goal.loop-index-preserved
loop-index-preserved c =
    below_more (λ k. has_one (layout One) (leaf_in c.args.leaves.now) c.args.inode k ≡ true) c.loop-index.index c.loop-index.invariant (sym c.has_one.ensures ∙ c.if-not-has_one.false)

pub returns : goal.returns
unfolding has_data
returns c =
    let end : c.blocks-index-end.result ≡ data_leaves (length_in (leaf_in c.args.leaves.now c.args.inode)) = c.blocks-index-end.ensures ∙ ap data_leaves c.content_length.ensures in
    ap not c.has_past.ensures
    ∙ sym (ap (λ b. b && not (list_any (λ i. is_past (layout One) (leaf_in c.args.leaves.now) c.args.inode i) (numbers (layout One))))
    (each_is (λ k. has_one (layout One) (leaf_in c.args.leaves.now) c.args.inode k) (data_leaves (length_in (leaf_in c.args.leaves.now c.args.inode)))
    (λ k low. c.loop-index.invariant k (omega (arith, low, end, c.loop-index-test.false)))))
