use Rattle.std.proofs.Common.{◌≡◌, ◌∙◌, ◌<◌, ℕ, List, length, sym, ap, subst, arith}
use Rattle.region_plan.specs.Chains.{links_in}
use Rattle.region_plan.specs.Layout.{layout}
use Rattle.region_plan.specs.Regions.{data_leaves}
use Rattle.region_plan.proofs.CompleteLemmas.{exact}
use Rattle.region_plan.proofs.FirstLemmas.{all_first, first_wrong, many_wrong, missing_first}
use Rattle.region_plan.proofs.check.has_data.Goals as goal

pub returns-then-count-leaves : goal.returns-then-count-leaves
returns-then-count-leaves c leaves is long =
    sym (many_wrong (layout c.args.form) leaves c.args.inode.now.number (subst (λ (k : ℕ). (layout c.args.form).leaves < k) (c.blocks-count.ensures ∙ ap data_leaves long)
    (omega (arith, c.if-count-leaves.true, c.leaves.ensures.is))))

pub returns-then-not-are_first : goal.returns-then-not-are_first
returns-then-not-are_first c leaves is long =
    let at = c.are_first.ensures.wrong c.if-not-are_first.true in
    sym (first_wrong (layout c.args.form) leaves c.args.map.now is c.args.inode.now.number c.blocks-count.result c.as_slice-firsts.result.now
    (ap length c.as_slice-firsts.ensures.value ∙ c.in_ok-firsts.ensures.long)
    (λ x below. ap (λ (l : List ℕ). links_in l x) c.as_slice-firsts.ensures.value ∙ c.in_ok-firsts.ensures.first x below)
    (c.blocks-count.ensures ∙ ap data_leaves long) at.0 at.1 at.2 at.3)

pub returns : goal.returns
returns c leaves is long =
    let sized : length c.as_slice-firsts.result.now ≡ c.blocks-count.result = ap length c.as_slice-firsts.ensures.value ∙ c.in_ok-firsts.ensures.long in
    let size : c.blocks-count.result ≡ data_leaves _ = c.blocks-count.ensures ∙ ap data_leaves long in
    exact c.have_leaves.result _
    (λ e. missing_first (layout c.args.form) leaves c.args.map.now is c.args.inode.now.number c.blocks-count.result c.as_slice-firsts.result.now sized
    (λ x below. ap (λ (l : List ℕ). links_in l x) c.as_slice-firsts.ensures.value ∙ c.in_ok-firsts.ensures.first x below) size (sym c.have_leaves.ensures ∙ e))
    (λ e. all_first (layout c.args.form) leaves c.args.map.now is c.args.inode.now.number c.blocks-count.result c.as_slice-firsts.result.now sized
    (λ x below. ap (λ (l : List ℕ). links_in l x) c.as_slice-firsts.ensures.value ∙ c.in_ok-firsts.ensures.first x below) size
    (c.are_first.ensures.right c.if-not-are_first.false) (sym c.have_leaves.ensures ∙ e))
