use Rattle.std.proofs.Common.{◌≡◌, ◌∙◌, ◌-◌, ◌<◌, ℕ, List, length, replicate, sym, ap, subst, arith}
use Rattle.std.specs.Prelude.{◌==◌, if◌then◌else◌}
use Rattle.std.proofs.lemmas.List.{get_or-replicate, length-replicate}
use Rattle.region_plan.specs.Chains.{last_below, leaf_from, link_to, links_in}
use Rattle.region_plan.specs.Layout.{layout}
use Rattle.region_plan.specs.Places.{entries_in}
use Rattle.region_plan.specs.declared.entry.Entry.{Entry}
use Rattle.region_plan.proofs.ChainLemmas.{from_below, from_end, linked, walk_begins, walk_goes, walk_is}
use Rattle.region_plan.proofs.FormLemmas.{laid_by}
use Rattle.region_plan.proofs.chain.first_links.Goals as goal

pub loop-at-init : goal.loop-at-init
loop-at-init c =
    let most = (laid_by c.args.form).most in
    let end = (layout c.args.form).leaves in
    let link : c.link_in-at.result ≡ last_below (entries_in c.args.map.now) c.args.inode (layout c.args.form).leaves
    = c.link_in-at.ensures ∙ c.requires.chains.lasts c.args.inode (omega (arith, most, c.requires.inode)) in
    let walk = walk_begins (entries_in c.args.map.now) (layout c.args.form).leaves c.args.inode c.link_in-at.result link in
    let zeros : c.in_ok-firsts.firsts.items ≡ replicate c.args.count 0 = c.in_ok-firsts.ensures.items_if_clones_equal (λ y is. is) in
    record {
      inside = walk.inside;
      own = walk.own;
      first = λ index below.
          ap (λ (l : List ℕ). links_in l index) zeros ∙ get_or-replicate c.args.count index 0 0 below
          ∙ ap link_to (sym (ap (λ (k : ℕ). leaf_from (entries_in c.args.map.now) (layout c.args.form).leaves c.args.inode index k) link
          ∙ from_below (entries_in c.args.map.now) (layout c.args.form).leaves c.args.inode index (layout c.args.form).leaves (omega arith)
          ∙ from_end (entries_in c.args.map.now) (layout c.args.form).leaves c.args.inode index));
      long = ap length zeros ∙ length-replicate c.args.count 0;
    }

pub loop-at-smaller : goal.loop-at-smaller
loop-at-smaller c =
    let most = (laid_by c.args.form).most in
    let is = walk_is (entries_in c.args.map.now) c.args.inode c.loop-at.at c.loop-at-test.true c.loop-at.invariant.own in
    let link : c.link_in-at-in-loop-at.result ≡ last_below (entries_in c.args.map.now) c.args.inode (c.loop-at.at - 1)
    = c.link_in-at-in-loop-at.ensures
    ∙ c.requires.chains.nexts (c.loop-at.at - 1) c.args.inode (omega (arith, c.loop-at-test.true, c.loop-at.invariant.inside)) (omega (arith, most, c.requires.inode)) is in
    (walk_goes (entries_in c.args.map.now) (layout c.args.form).leaves c.args.inode c.loop-at.at c.link_in-at-in-loop-at.result c.loop-at-test.true c.loop-at.invariant.inside link).1

pub loop-at-preserved : goal.loop-at-preserved
loop-at-preserved c =
    let most = (laid_by c.args.form).most in
    let is = walk_is (entries_in c.args.map.now) c.args.inode c.loop-at.at c.loop-at-test.true c.loop-at.invariant.own in
    let link : c.link_in-at-in-loop-at.result ≡ last_below (entries_in c.args.map.now) c.args.inode (c.loop-at.at - 1)
    = c.link_in-at-in-loop-at.ensures
    ∙ c.requires.chains.nexts (c.loop-at.at - 1) c.args.inode (omega (arith, c.loop-at-test.true, c.loop-at.invariant.inside)) (omega (arith, most, c.requires.inode)) is in
    let walk = (walk_goes (entries_in c.args.map.now) (layout c.args.form).leaves c.args.inode c.loop-at.at c.link_in-at-in-loop-at.result c.loop-at-test.true c.loop-at.invariant.inside link).0 in
    record {
      inside = walk.inside;
      own = walk.own;
      first = λ index below.
          linked (entries_in c.args.map.now) (layout c.args.form).leaves c.args.inode index c.loop-at.at c.link_in-at-in-loop-at.result (links_in c.loop-at.firsts.items index) _
          c.loop-at-test.true c.loop-at.invariant.inside is link (c.loop-at.invariant.first index below)
          (c.put_link.ensures.links index (subst (λ (k : ℕ). index < k) (sym c.loop-at.invariant.long) below)
          ∙ ap (λ (e : Entry). if e.index == index then c.loop-at.at else links_in c.loop-at.firsts.items index) c.entry_in.ensures);
      long = c.put_link.ensures.long ∙ c.loop-at.invariant.long;
    }
