use Rattle.std.proofs.Common.{◌≡◌, ◌≤◌, ◌<◌, ◌+◌, ◌∙◌, ℕ, List, true, is_some, length, min, subst, arith}
use Rattle.store_api.specs.declared.leaves.Leaf.{Leaf}
use Rattle.region_plan.specs.Layout.{layout}
use Rattle.region_plan.specs.Places.{entries_in, free_before, place_leaves}
use Rattle.region_plan.specs.declared.entry.Entry.{Entry}
use Rattle.region_plan.specs.Plans.{ChangeMap, IsChangedLeaf, IsPlanned, is_named, leaves_to_change, kept_leaves, with_leaves}
use Rattle.region_plan.specs.Reading.{leaves_of}
use Rattle.region_plan.specs.Regions.{data_leaves}
use Rattle.region_plan.proofs.ContentLemmas.{if_ok_four, some_is}
use Rattle.region_plan.proofs.EntryLemmas.{placed_some, placed_writable}
use Rattle.region_plan.proofs.FormLemmas.{laid_by}
use Rattle.region_plan.proofs.planning.plan_edit.Goals as goal
use Rattle.region_plan.specs.declared.form.Form.TheVariants.{Two}

pub changed_leaves-requires-clause-writable : goal.changed_leaves-requires-clause-writable
changed_leaves-requires-clause-writable g c =
    let wide = (laid_by Two).indexes in
    placed_writable (layout Two) (laid_by Two) c.args.base.now c.in-Some.after c.args.inode c.min-kept.result c.blocks-wanted.result c.requires.writable c.requires.inode
    (omega (arith, wide, c.if-wanted-quota.false, c.quota.ensures))
    (placed_some (layout Two) c.in_ok-after.field-0 c.args.base.now c.in-Some.after c.args.inode c.min-kept.result c.blocks-wanted.result c.in-Some.is c.in_ok-after.ensures.map)

pub returns-clause-planned : goal.returns-clause-planned
returns-clause-planned g c h first =
    let leaves : ℕ → List ℕ = leaves_of g.L.LeafSource.keeper g.L.LeafSource.region c.args.from.now in
    let wide = (laid_by Two).indexes in
    let wanted : c.blocks-wanted.result ≡ data_leaves c.args.edit.length = c.blocks-wanted.ensures in
    let kept : c.min-kept.result ≡ kept_leaves c.args.edit.had c.args.edit = c.min-kept.ensures ∙ (λ i. min (c.blocks-2.ensures i) (c.blocks-wanted.ensures i)) in
    let placed' = placed_some (layout Two) c.in_ok-after.field-0 c.args.base.now c.in-Some.after c.args.inode c.min-kept.result c.blocks-wanted.result c.in-Some.is c.in_ok-after.ensures.map in
    let enough = some_is c.in_ok-after.field-0 c.in-Some.after
    (λ (after : List Entry). c.blocks-wanted.result ≤ c.min-kept.result + free_before (layout Two) (entries_in c.args.base.now) (layout Two).leaves)
    c.in-Some.is c.in_ok-after.ensures.enough in
    if_ok_four c.changed_leaves.result
    (λ (named : List Leaf). (i : ℕ) → i < (layout Two).leaves → IsChangedLeaf (layout Two) (leaves_of g.L.LeafSource.keeper g.L.LeafSource.region c.args.from.now)
    c.in-Some.after c.args.inode c.args.head.now c.args.edit i (with_leaves named (leaves_of g.L.LeafSource.keeper g.L.LeafSource.region c.args.from.now) i))
    (λ (named : List Leaf). length named ≤ leaves_to_change (layout Two) c.in-Some.after c.args.inode c.args.edit (layout Two).leaves)
    (λ (named : List Leaf). ChangeMap (layout Two) (leaves_of g.L.LeafSource.keeper g.L.LeafSource.region c.args.from.now) named)
    (λ (named : List Leaf). is_some c.args.head.now ≡ true → (layout Two).map_leaves ≤ c.args.inode → c.args.inode < (layout Two).leaves → is_named named c.args.inode ≡ true)
    (λ (named : List Leaf). IsPlanned (layout Two) (leaves_of g.L.LeafSource.keeper g.L.LeafSource.region c.args.from.now) c.args.base.now c.args.inode c.args.head.now c.args.edit named)
    (λ named each few changed own. record {
      map = c.in-Some.after;
      edited = record {
        map_is = λ i below. placed' i below ∙ (λ j. place_leaves (layout Two) (entries_in c.args.base.now) c.args.inode (kept j) (wanted j) i);
        short = omega (arith, wide, wanted, c.if-wanted-quota.false, c.quota.ensures);
        enough =
            subst (λ (n : ℕ). n ≤ kept_leaves c.args.edit.had c.args.edit + free_before (layout Two) (entries_in c.args.base.now) (layout Two).leaves) wanted
            (subst (λ (k : ℕ). c.blocks-wanted.result ≤ k + free_before (layout Two) (entries_in c.args.base.now) (layout Two).leaves) kept enough);
        each = each;
      };
      few = few;
      changed = changed;
      own = λ some' low. own some' low c.requires.inode;
    }) (c.changed_leaves.ensures.each h first) c.changed_leaves.ensures.few (c.changed_leaves.ensures.changed h first) c.changed_leaves.ensures.own
