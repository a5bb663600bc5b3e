use Rattle.std.proofs.Common.{◌≡◌, ◌∙◌, ◌+◌, ◌-◌, ◌≤◌, ℕ, true, sym, ap, subst, arith}
use Rattle.region_plan.specs.Chains.{is_first, last_below}
use Rattle.region_plan.specs.Layout.{layout}
use Rattle.region_plan.specs.Places.{entries_in}
use Rattle.region_plan.specs.declared.entry.Entry.{Entry}
use Rattle.region_plan.proofs.ChainLemmas.{below_none, not_both, walk_begins, walk_goes, walk_is, walked}
use Rattle.region_plan.proofs.FormLemmas.{laid_by}
use Rattle.region_plan.proofs.chain.are_first.Goals as goal

pub loop-at-init : goal.loop-at-init
loop-at-init c =
    let most = (laid_by c.args.form).most in
    let link : c.link_in-at.result ≡ last_below (entries_in c.args.map.now) c.args.inode (layout c.args.form).leaves
    = c.link_in-at.ensures ∙ c.requires.chains.lasts c.args.inode (omega (arith, most, c.requires.inode)) in
    let walk = walk_begins (entries_in c.args.map.now) (layout c.args.form).leaves c.args.inode c.link_in-at.result link in
    record {
      inside = walk.inside;
      own = walk.own;
      first = λ i low high of. not_both _ of
          (below_none (entries_in c.args.map.now) c.args.inode (layout c.args.form).leaves i (subst (λ (k : ℕ). k ≤ i) link low) high);
    }

pub returns-then-not-is_first-clause-wrong : goal.returns-then-not-is_first-clause-wrong
returns-then-not-is_first-clause-wrong c no' =
    let up : c.loop-at.at ≡ c.loop-at.at - 1 + 1 = omega (arith, c.loop-at-test.true) in (
      c.loop-at.at - 1,
      omega (arith, c.loop-at-test.true, c.loop-at.invariant.inside),
      walk_is (entries_in c.args.map.now) c.args.inode c.loop-at.at c.loop-at-test.true c.loop-at.invariant.own,
      ap (λ (e : Entry). is_first c.args.firsts.now e (c.loop-at.at - 1 + 1)) (sym c.entry_in.ensures) ∙ ap (λ (k : ℕ). is_first c.args.firsts.now c.entry_in.result k) (sym up)
          ∙ sym c.is_first.ensures ∙ c.if-not-is_first.true,
    )

pub loop-at-smaller : goal.loop-at-smaller
loop-at-smaller c =
    let most = (laid_by c.args.form).most in
    let is = walk_is (entries_in c.args.map.now) c.args.inode c.loop-at.at c.loop-at-test.true c.loop-at.invariant.own in
    let link : c.link_in-at-in-loop-at.result ≡ last_below (entries_in c.args.map.now) c.args.inode (c.loop-at.at - 1)
    = c.link_in-at-in-loop-at.ensures
    ∙ c.requires.chains.nexts (c.loop-at.at - 1) c.args.inode (omega (arith, c.loop-at-test.true, c.loop-at.invariant.inside)) (omega (arith, most, c.requires.inode)) is in
    (walk_goes (entries_in c.args.map.now) (layout c.args.form).leaves c.args.inode c.loop-at.at c.link_in-at-in-loop-at.result c.loop-at-test.true c.loop-at.invariant.inside link).1

pub loop-at-preserved : goal.loop-at-preserved
loop-at-preserved c =
    let most = (laid_by c.args.form).most in
    let is = walk_is (entries_in c.args.map.now) c.args.inode c.loop-at.at c.loop-at-test.true c.loop-at.invariant.own in
    let link : c.link_in-at-in-loop-at.result ≡ last_below (entries_in c.args.map.now) c.args.inode (c.loop-at.at - 1)
    = c.link_in-at-in-loop-at.ensures
    ∙ c.requires.chains.nexts (c.loop-at.at - 1) c.args.inode (omega (arith, c.loop-at-test.true, c.loop-at.invariant.inside)) (omega (arith, most, c.requires.inode)) is in
    let walk = (walk_goes (entries_in c.args.map.now) (layout c.args.form).leaves c.args.inode c.loop-at.at c.link_in-at-in-loop-at.result c.loop-at-test.true c.loop-at.invariant.inside link).0 in
    let up : c.loop-at.at ≡ c.loop-at.at - 1 + 1 = omega (arith, c.loop-at-test.true) in
    record {
      inside = walk.inside;
      own = walk.own;
      first = walked (entries_in c.args.map.now) (λ i. is_first c.args.firsts.now (entries_in c.args.map.now i) (i + 1) ≡ true) (layout c.args.form).leaves c.args.inode c.loop-at.at
          c.link_in-at-in-loop-at.result c.loop-at-test.true link
          (ap (λ (e : Entry). is_first c.args.firsts.now e (c.loop-at.at - 1 + 1)) (sym c.entry_in.ensures) ∙ ap (λ (k : ℕ). is_first c.args.firsts.now c.entry_in.result k) (sym up)
          ∙ sym c.is_first.ensures ∙ c.if-not-is_first.false) c.loop-at.invariant.first;
    }
