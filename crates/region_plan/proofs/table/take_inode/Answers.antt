use Rattle.std.proofs.Common.{◌∙◌, List, sym, subst}
use Rattle.std.specs.List.{All}
use Rattle.std.proofs.lemmas.Bool.{not-false, not-true}
use Rattle.std.proofs.lemmas.List.Elements.{All-push}
use Rattle.region_plan.specs.Layout.{layout}
use Rattle.region_plan.specs.Reading.{leaves_of}
use Rattle.region_plan.specs.Regions.{is_doubled}
use Rattle.region_plan.specs.Tables.{IsWithin}
use Rattle.region_plan.specs.declared.inode.Inode.{Inode}
use Rattle.region_plan.proofs.CheckLemmas.{known_is}
use Rattle.region_plan.proofs.FormLemmas.{laid_by}
use Rattle.region_plan.proofs.RuleLemmas.{doubled_breaks}
use Rattle.region_plan.proofs.table.take_inode.Goals as goal

pub returns-in-Some-clause-within : goal.returns-in-Some-clause-within
returns-in-Some-clause-within g c all =
    let added = rw c.in-Some.is at c.in_ok-inodes.ensures.added in
    subst (λ (l : List Inode). All (IsWithin (layout c.args.form)) l) (sym added)
    (All-push (IsWithin (layout c.args.form)) c.args.before c.in_ok-inode.inode all c.in_ok-inode.ensures.within)

pub returns-in-Some-clause-whole : goal.returns-in-Some-clause-whole
returns-in-Some-clause-whole g c h first before =
    let leaves = leaves_of g.L.LeafSource.keeper g.L.LeafSource.region c.args.from.now in
    let new = rw c.in-Some.is at c.in_ok-inodes.ensures.new in
    let known = known_is (layout c.args.form) (laid_by c.args.form) leaves c.args.leaf c.in_ok-inode.inode c.args.before (c.in_ok-inode.ensures.inode h) before in
    record {
      bytes = c.in_ok-inode.ensures.bytes h;
      new = not-true (is_doubled (layout c.args.form) leaves c.args.leaf) (sym known ∙ sym new);
      placed = c.in_ok-inode.ensures.placed h first;
    }

pub returns-in-None-clause-garbled : goal.returns-in-None-clause-garbled
returns-in-None-clause-garbled g c h first inode before =
    let leaves = leaves_of g.L.LeafSource.keeper g.L.LeafSource.region c.args.from.now in
    let known' = rw c.in-None.is at c.in_ok-inodes.ensures.new in
    let known = known_is (layout c.args.form) (laid_by c.args.form) leaves c.args.leaf c.in_ok-inode.inode c.args.before (c.in_ok-inode.ensures.inode h) before in
    doubled_breaks (layout c.args.form) leaves c.args.leaf inode (not-false (is_doubled (layout c.args.form) leaves c.args.leaf) (sym known ∙ sym known'))
