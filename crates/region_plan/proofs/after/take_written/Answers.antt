use Rattle.std.proofs.Common.{◌<◌, ◌+◌, ◌∙◌, ℕ, List, Option, refl, ap, sym, subst, arith}
use Rattle.region_plan.specs.Layout.{layout}
use Rattle.region_plan.specs.Plans.{bytes_or}
use Rattle.region_plan.specs.declared.entry.Entry.{Entry}
use Rattle.region_plan.specs.declared.form.Form.TheVariants.{Two}
use Rattle.region_plan.proofs.FormLemmas.{laid_by}
use Rattle.region_plan.proofs.WrittenLemmas.{TakenBelow, all_taken, none_taken_below, passed_below, taken_below}
use Rattle.region_plan.proofs.after.take_written.Goals as goal
use Rattle.region_plan.proofs.after.take_written.Goals.{in-Some, in_default}

pub loop-leaf-init : goal.loop-leaf-init
loop-leaf-init c = none_taken_below (layout Two) (laid_by Two) c.args.named.now c.args.map.now c.requires

pub loop-leaf-preserved : goal.loop-leaf-preserved
loop-leaf-preserved c =
    let below : c.loop-leaf.leaf < (layout Two).map_leaves = subst (λ (n : ℕ). c.loop-leaf.leaf < n) c.map_leaves-leaf-end.ensures.is c.loop-leaf-test.true in
    elim c.match-written.branch [
      | in-Some w ↦
          subst (λ (m : List Entry). TakenBelow (layout Two) (laid_by Two) c.args.named.now c.args.map.now m (c.loop-leaf.leaf + 1)) (sym w.map-is)
          (taken_below (layout Two) (laid_by Two) c.args.named.now c.args.map.now c.loop-leaf.map c.loop-leaf.leaf (c.loop-leaf.leaf + 1) c.loop-leaf.invariant below refl
          w.take_entries.new.map w.in-Some.block
          (λ o. sym (ap (λ (r : Option (List ℕ)). bytes_or r o) w.in-Some.is) ∙ c.written.ensures.bytes o)
          w.take_entries.ensures.taken w.take_entries.ensures.before w.take_entries.ensures.behind)
      | in_default w ↦
          subst (λ (m : List Entry). TakenBelow (layout Two) (laid_by Two) c.args.named.now c.args.map.now m (c.loop-leaf.leaf + 1)) (sym w.map-is)
          (passed_below (layout Two) (laid_by Two) c.args.named.now c.args.map.now c.loop-leaf.map c.loop-leaf.leaf (c.loop-leaf.leaf + 1) c.loop-leaf.invariant below refl
          (λ o. sym (ap (λ (r : Option (List ℕ)). bytes_or r o) w.in_default.is) ∙ c.written.ensures.bytes o))
    ]

pub returns-clause-map : goal.returns-clause-map
returns-clause-map c leaves is =
    all_taken (layout Two) (laid_by Two) c.args.named.now c.args.map.now c.loop-leaf.map c.loop-leaf.leaf c.loop-leaf.invariant
    (omega (arith, c.map_leaves-leaf-end.ensures.is, c.loop-leaf-test.false, c.loop-leaf.auto.leaf-end)) leaves is
