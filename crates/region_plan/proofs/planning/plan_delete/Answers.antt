use Rattle.std.proofs.Common.{refl, arith}
use Rattle.region_plan.specs.Places.{free_entry}
use Rattle.region_plan.proofs.EntryLemmas.{free_writable, placed_some, placed_writable, set_writable}
use Rattle.region_plan.proofs.NamedLemmas.{above_most}
use Rattle.region_plan.proofs.ResultLemmas.{delete_none, delete_plans}
use Rattle.region_plan.proofs.StoreLemmas.{looked_none, looked_up}
use Rattle.region_plan.proofs.planning.plan_delete.Goals as goal
use Rattle.region_plan.specs.Layout.{layout}
use Rattle.region_plan.proofs.FormLemmas.{laid_by}
use Rattle.region_plan.specs.declared.form.Form.TheVariants.{Two}

pub returns-in_default-clause-plans : goal.returns-in_default-clause-plans
returns-in_default-clause-plans c leaves first all store stands =
    delete_none (layout Two) (laid_by Two) leaves store stands c.args.id.now
    (looked_none (layout Two) leaves c.args.id.now c.find.result c.args.inodes.now c.args.inodes.now c.find.ensures.inode refl all c.in_default.is)

pub returns-clause-plans : goal.returns-clause-plans
returns-clause-plans c leaves first all store stands =
    delete_plans (layout Two) (laid_by Two) leaves store stands c.args.id.now c.in-Some.inode.now
    (looked_up (layout Two) leaves c.args.id.now c.find.result c.args.inodes.now c.args.inodes.now c.in-Some.inode c.find.ensures.inode refl all c.in-Some.is)
    c.args.map.now c.in-Some-2.after c.set_entry.new.map c.in_ok-changed_map.field-0 first (c.in_ok-changed_map.ensures.each leaves first) c.in_ok-changed_map.ensures.named
    (placed_some (layout Two) c.in_ok-after.field-0 c.args.map.now c.in-Some-2.after c.in-Some.inode.now.number 0 0 c.in-Some-2.is c.in_ok-after.ensures.map)
    c.set_entry.ensures c.in_ok-changed_map.ensures.few (c.in_ok-changed_map.ensures.changed leaves first)

pub set_entry-requires : goal.set_entry-requires
set_entry-requires c = (let most = (laid_by Two).most in omega (arith, most, c.in-Some.ensures.within.2))

pub changed_map-requires : goal.changed_map-requires
changed_map-requires c =
    set_writable (layout Two) c.in-Some-2.after c.set_entry.new.map c.in-Some.inode.now.number free_entry
    (placed_writable (layout Two) (laid_by Two) c.args.map.now c.in-Some-2.after c.in-Some.inode.now.number 0 0 c.requires.writable
    c.in-Some.ensures.within.2 (omega arith)
    (placed_some (layout Two) c.in_ok-after.field-0 c.args.map.now c.in-Some-2.after c.in-Some.inode.now.number 0 0 c.in-Some-2.is c.in_ok-after.ensures.map))
    (free_writable (layout Two) (laid_by Two)) c.set_entry.ensures

pub returns-clause-named : goal.returns-clause-named
returns-clause-named c =
    let more = (laid_by Two).more in
    above_most c.in_ok-changed_map.field-0 (layout Two).map_leaves (layout Two).leaves (omega (arith, more)) c.in_ok-changed_map.ensures.named
