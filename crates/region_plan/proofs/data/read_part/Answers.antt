use Rattle.std.proofs.Common.{◌/◌, ◌++◌, ◌∙◌, ℕ, true, false, List, length, sym, ap, arith}
use Rattle.region_plan.specs.Reading.{leaves_of}
use Rattle.region_plan.specs.Inodes.{length_in}
use Rattle.region_plan.specs.Regions.{leaf_of}
use Rattle.region_plan.proofs.FirstLemmas.{inside, led}
use Rattle.region_plan.proofs.LeafLemmas.{zeros_of}
use Rattle.region_plan.proofs.RegionLemmas.{leaf_read}
use Rattle.region_plan.proofs.ContentLemmas.{missing_breaks, padded_from, unpadded_breaks, leaf_bytes, index_below}
use Rattle.region_plan.proofs.data.read_part.Goals as goal
use Rattle.region_plan.specs.Layout.{layout}

pub returns-in_default-clause-garbled : goal.returns-in_default-clause-garbled
returns-in_default-clause-garbled g c h is =
    let leaves = leaves_of g.L.LeafSource.keeper g.L.LeafSource.region c.args.from.now in
    missing_breaks (layout c.args.form) leaves c.args.inode (c.args.at / 1024) is.inode (index_below c.args.at c.args.end c.args.length _ c.requires.some c.requires.inside is.long)
    (sym (led c.linked_leaf.result (c.args.at / 1024) c.args.links.now (leaf_of (layout c.args.form) leaves c.args.inode (c.args.at / 1024)) c.linked_leaf.ensures
    (is.first (c.args.at / 1024) (inside c.args.at c.args.end (length c.args.links.now) c.requires.some c.requires.reach))) ∙ c.in_default.is)

pub returns-then-not-is_zero_behind-clause-garbled : goal.returns-then-not-is_zero_behind-clause-garbled
returns-then-not-is_zero_behind-clause-garbled g c h is =
    let leaves = leaves_of g.L.LeafSource.keeper g.L.LeafSource.region c.args.from.now in
    unpadded_breaks (layout c.args.form) leaves c.args.inode (c.args.at / 1024) c.in-Some.leaf (index_below c.args.at c.args.end c.args.length _ c.requires.some c.requires.inside is.long)
    (sym (led c.linked_leaf.result (c.args.at / 1024) c.args.links.now (leaf_of (layout c.args.form) leaves c.args.inode (c.args.at / 1024)) c.linked_leaf.ensures
    (is.first (c.args.at / 1024) (inside c.args.at c.args.end (length c.args.links.now) c.requires.some c.requires.reach))) ∙ c.in-Some.is)
    (zeros_of c.args.length (c.args.at / 1024) (length_in (leaves c.args.inode)) c.read.new.into (leaves c.in-Some.leaf) c.is_zero_behind.result false is.long (c.in_ok-read.ensures.leaf h)
    c.is_zero_behind.ensures c.if-not-is_zero_behind.true)

pub returns-clause-found : goal.returns-clause-found
returns-clause-found g c h is =
    let K = g.L.LeafSource.keeper in
    let R = g.L.LeafSource.region in
    let leaves = leaves_of K R c.args.from.now in
    let found = sym (led c.linked_leaf.result (c.args.at / 1024) c.args.links.now (leaf_of (layout c.args.form) leaves c.args.inode (c.args.at / 1024)) c.linked_leaf.ensures
    (is.first (c.args.at / 1024) (inside c.args.at c.args.end (length c.args.links.now) c.requires.some c.requires.reach))) ∙ c.in-Some.is in
    leaf_read K R (layout c.args.form) c.args.from.now c.args.inode c.args.at c.args.end c.in-Some.leaf c.requires.leaf found (c.in_ok-read.ensures.undamaged h)
    (padded_from (layout c.args.form) leaves c.args.inode (c.args.at / 1024) c.in-Some.leaf found
    (zeros_of c.args.length (c.args.at / 1024) (length_in (leaves c.args.inode)) c.read.new.into (leaves c.in-Some.leaf) c.is_zero_behind.result true is.long (c.in_ok-read.ensures.leaf h)
    c.is_zero_behind.ensures c.if-not-is_zero_behind.false))

pub returns-clause-bytes : goal.returns-clause-bytes
returns-clause-bytes g c h is =
    let leaves = leaves_of g.L.LeafSource.keeper g.L.LeafSource.region c.args.from.now in
    c.in_ok-extend_from_slice.ensures.items
    ∙ ap (λ (l : List ℕ). c.args.bytes.now.items ++ l)
    (leaf_bytes (layout c.args.form) leaves c.args.inode c.args.at c.args.end c.in-Some.leaf c.read.new.into (sym (led c.linked_leaf.result (c.args.at / 1024) c.args.links.now (leaf_of
    (layout c.args.form) leaves c.args.inode (c.args.at / 1024)) c.linked_leaf.ensures
    (is.first (c.args.at / 1024) (inside c.args.at c.args.end (length c.args.links.now) c.requires.some c.requires.reach))) ∙ c.in-Some.is)
    (c.in_ok-read.ensures.leaf h) c.read.array_long c.requires.some c.requires.leaf)

pub read-requires : goal.read-requires
read-requires g c =
    let low = c.requires.links (c.args.at / 1024) (inside c.args.at c.args.end (length c.args.links.now) c.requires.some c.requires.reach) in
    omega (arith, c.in-Some.ensures, low, c.requires.fits)

pub returns-then-not-is_zero_behind-clause-few : goal.returns-then-not-is_zero_behind-clause-few
returns-then-not-is_zero_behind-clause-few g c =
    let low = c.requires.links (c.args.at / 1024) (inside c.args.at c.args.end (length c.args.links.now) c.requires.some c.requires.reach) in
    omega (arith, c.in-Some.ensures, low)
