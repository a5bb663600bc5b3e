use Rattle.region_plan.specs.Layout.{layout}
use Rattle.region_plan.proofs.FormLemmas.{laid_by}
use Rattle.region_plan.proofs.MapLemmas.{TakenSoFar}
use Rattle.region_plan.proofs.entry.take_entries.Given as goal

abbrev pub invariant-loop-place : goal.invariant-loop-place
invariant-loop-place l = TakenSoFar (layout l.form) (laid_by l.form) l.fn.map l.map l.leaf l.block l.place
