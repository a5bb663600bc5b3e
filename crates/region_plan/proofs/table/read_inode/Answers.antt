use Rattle.std.proofs.Common.{◌≡◌, ◌∙◌, ℕ, true, false, sym, ap, subst}
use Rattle.region_plan.specs.Inodes.{is_inode_leaf}
use Rattle.region_plan.specs.Reading.{leaves_of}
use Rattle.region_plan.specs.Regions.{has_data}
use Rattle.region_plan.proofs.CheckLemmas.{number_is, length_is}
use Rattle.region_plan.proofs.RuleLemmas.{inode_breaks, index_breaks}
use Rattle.region_plan.proofs.table.read_inode.Goals as goal
use Rattle.region_plan.specs.Layout.{layout}

pub returns-then-not-is_inode_leaf-clause-garbled : goal.returns-then-not-is_inode_leaf-clause-garbled
returns-then-not-is_inode_leaf-clause-garbled g c h first inode =
    inode_breaks (layout c.args.form) (leaves_of g.L.LeafSource.keeper g.L.LeafSource.region c.args.from.now) c.args.leaf inode
    (ap is_inode_leaf (sym (c.in_ok-read.ensures.leaf h)) ∙ sym c.is_inode_leaf.ensures ∙ c.if-not-is_inode_leaf.true)

pub returns-then-not-placed-clause-garbled : goal.returns-then-not-placed-clause-garbled
returns-then-not-placed-clause-garbled g c h first inode =
    let leaves = leaves_of g.L.LeafSource.keeper g.L.LeafSource.region c.args.from.now in
    let number = number_is leaves c.args.leaf c.read.new.into c.in_ok-inode.inode (c.in_ok-read.ensures.leaf h) c.in_ok-inode.ensures.inode in
    let long = length_is leaves c.args.leaf c.read.new.into c.in_ok-inode.inode (c.in_ok-read.ensures.leaf h) c.in_ok-inode.ensures.inode in
    index_breaks (layout c.args.form) leaves c.args.leaf inode
    (subst (λ (n : ℕ). has_data (layout c.args.form) leaves n ≡ false) number (sym (c.in_ok-placed.ensures leaves first long) ∙ c.if-not-placed.true))

pub returns-clause-bytes : goal.returns-clause-bytes
returns-clause-bytes g c h = ap is_inode_leaf (sym (c.in_ok-read.ensures.leaf h)) ∙ sym c.is_inode_leaf.ensures ∙ c.if-not-is_inode_leaf.false

pub returns-clause-placed : goal.returns-clause-placed
returns-clause-placed g c h first =
    let leaves = leaves_of g.L.LeafSource.keeper g.L.LeafSource.region c.args.from.now in
    let number = number_is leaves c.args.leaf c.read.new.into c.in_ok-inode.inode (c.in_ok-read.ensures.leaf h) c.in_ok-inode.ensures.inode in
    let long = length_is leaves c.args.leaf c.read.new.into c.in_ok-inode.inode (c.in_ok-read.ensures.leaf h) c.in_ok-inode.ensures.inode in
    subst (λ (n : ℕ). has_data (layout c.args.form) leaves n ≡ true) number (sym (c.in_ok-placed.ensures leaves first long) ∙ c.if-not-placed.false)
