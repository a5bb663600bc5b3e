use Rattle.std.proofs.Common.{◌<◌, ◌∙◌, ℕ, List, subst, sym, arith}
use Rattle.region_plan.specs.declared.entry.Entry.{Entry}
use Rattle.region_plan.proofs.StepLemmas.{SoFar, started, stepped, marked, byte_mark}
use Rattle.region_plan.proofs.place.with_data.Goals as goal
use Rattle.region_plan.specs.Layout.{layout}
use Rattle.region_plan.proofs.FormLemmas.{laid_by}
use Rattle.region_plan.specs.declared.form.Form.TheVariants.{Two}

pub overflow_add-index : goal.overflow_add-index
overflow_add-index c = (let was = c.loop-leaf.invariant.counted in let few = c.loop-leaf.invariant.few in let one = marked c.is_free-free.result in let byte = byte_mark c.is_free-free.result in
    let most = (laid_by Two).most in
    omega (arith, was, few, one, byte, most, c.from-index.ensures, c.requires.kept, c.requires.blocks, c.loop-leaf-test.true, c.leaves-leaf-end.ensures.is))

pub loop-leaf-init : goal.loop-leaf-init
loop-leaf-init c =
    subst (λ (m : List Entry). SoFar (layout Two) (laid_by Two) c.args.map.now m c.args.inode c.args.kept c.args.blocks c.args.kept 0) (sym c.in_ok-after.ensures)
    (started (layout Two) (laid_by Two) c.args.map.now c.args.inode c.args.kept c.args.blocks)

pub loop-leaf-preserved : goal.loop-leaf-preserved
loop-leaf-preserved c =
    stepped (layout Two) (laid_by Two) c.args.map.now c.loop-leaf.after c.set_entry.new.map c.args.inode c.args.kept c.args.blocks c.loop-leaf.index c.loop-leaf.leaf
    c.entry_in-entry.result c.placed_entry-placed.result
    c.is_free-free.result c.from-index.result c.loop-leaf.invariant (subst (λ (n : ℕ). c.loop-leaf.leaf < n) c.leaves-leaf-end.ensures.is c.loop-leaf-test.true) c.entry_in-entry.ensures
    c.is_free-free.ensures c.placed_entry-placed.ensures
    c.set_entry.ensures (c.from-index.ensures ∙ byte_mark c.is_free-free.result)
