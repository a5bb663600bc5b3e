use Rattle.std.proofs.Common.{◌≡◌, ◌<◌, ◌∙◌, ℕ, true, refl, sym, subst, arith}
use Rattle.region_plan.specs.Entries.{follows}
use Rattle.region_plan.specs.Layout.{layout}
use Rattle.region_plan.specs.Places.{entries_in}
use Rattle.region_plan.proofs.CompleteLemmas.{each_more}
use Rattle.region_plan.proofs.EntryLemmas.{follows_is}
use Rattle.region_plan.proofs.FormLemmas.{laid_by}
use Rattle.region_plan.proofs.RuleLemmas.{entry_breaks}
use Rattle.region_plan.proofs.table.check_map.Goals as goal

pub loop-leaf-init : goal.loop-leaf-init
loop-leaf-init c = λ i low. absurd (omega (arith, low))

pub loop-leaf-preserved : goal.loop-leaf-preserved
loop-leaf-preserved c =
    each_more (λ (i : ℕ). follows (layout c.args.form) (entries_in c.args.map.now) i ≡ true) c.loop-leaf.leaf _ refl c.loop-leaf.invariant
    (sym c.is_well_formed.ensures ∙ c.if-not-is_well_formed.false)

pub returns-then-not-is_well_formed-clause-garbled : goal.returns-then-not-is_well_formed-clause-garbled
returns-then-not-is_well_formed-clause-garbled c = λ leaves is.
    let below : c.loop-leaf.leaf < (layout c.args.form).leaves = subst (λ (n : ℕ). c.loop-leaf.leaf < n) c.leaves-leaf-end.ensures.is c.loop-leaf-test.true in
    entry_breaks (layout c.args.form) leaves c.loop-leaf.leaf
    (sym (follows_is (layout c.args.form) (laid_by c.args.form) leaves c.args.map.now is c.loop-leaf.leaf below) ∙ sym c.is_well_formed.ensures ∙ c.if-not-is_well_formed.true)

pub returns-clause-formed : goal.returns-clause-formed
returns-clause-formed c = λ i low. c.loop-leaf.invariant i (omega (arith, low, c.leaves-leaf-end.ensures.is, c.loop-leaf-test.false, c.loop-leaf.auto.leaf-end))
