use Rattle.std.proofs.Common.{◌≡◌, ◌∙◌, Result, Err, rules, sym, subst}
use Rattle.store_api.specs.declared.answer.StoreAnswer.{StoreAnswer}
use Rattle.store_api.specs.declared.answer.StoreAnswer.TheVariants.{NoMemory}
use Rattle.region_plan.specs.Layout.{layout}
use Rattle.region_plan.specs.Reading.{ReadsOnly, refusal_of}
use Rattle.region_plan.specs.declared.directory.Directory.{Directory}
use Rattle.region_plan.proofs.EntryLemmas.{free_named}
use Rattle.region_plan.proofs.FormLemmas.{laid_by}
use Rattle.region_plan.proofs.ReadLemmas.{reads_lost, reads_no_memory, reads_started}
use Rattle.region_plan.proofs.directory.Directory.read.Goals as goal

pub load-requires-clause-free : goal.load-requires-clause-free
load-requires-clause-free g c = free_named (layout c.args.form) (laid_by c.args.form) c.in_ok-map.map c.in_ok-map.ensures

pub returns-then-is_lost-clause-reads : goal.returns-then-is_lost-clause-reads
returns-then-is_lost-clause-reads g c = reads_lost g.L.LeafSource.keeper g.L.LeafSource.region c.args.from.now (sym c.is_lost.ensures ∙ c.if-is_lost.true)

pub returns-in_err-map-clause-reads : goal.returns-in_err-map-clause-reads
returns-in_err-map-clause-reads g c =
    let K = g.L.LeafSource.keeper in
    let R = g.L.LeafSource.region in
    let is : c.from_residual.result ≡ Err NoMemory = search rules in
    subst (λ (r : Result Directory StoreAnswer). ReadsOnly K R (refusal_of r) c.args.from.now c.args.from.now) (sym is)
    (reads_no_memory K R c.args.from.now c.args.from.now
    (reads_started K R c.args.from.now (sym c.is_lost.ensures ∙ c.if-is_lost.false) (g.met.L.LeafSource.rests c.args.from.now)))
