use Rattle.region_plan.specs.Layout.{layout}
use Rattle.std.proofs.Common.{◌∙◌, ℕ, ap}
use Rattle.region_plan.proofs.FormLemmas.{laid_by}
use Rattle.region_plan.proofs.MapLemmas.{more_taken}
use Rattle.region_plan.proofs.entry.take_entries.Goals as goal

pub loop-place-preserved : goal.loop-place-preserved
loop-place-preserved c =
    more_taken (layout c.args.form) (laid_by c.args.form) c.args.map.now c.loop-place.map c.set_entry.new.map c.args.leaf c.args.block.now c.loop-place.place c.entry_of.result c.loop-place-test.true
    c.loop-place.invariant (c.entry_of.ensures ∙ ap (λ (n : ℕ). (layout c.args.form).entry_of n) c.number_at-number.ensures) c.set_entry.ensures
