use Rattle.std.proofs.Common.{[], ◌∙◌, ap, sym, subst, refl, length, rules}
use Rattle.race.specs.Clients.{AllServe, AllKnowMore}
use Rattle.race.proofs.RunLemmas.{has_run, refilled}
use Rattle.race.proofs.worker.Worker.run.Goals as goal

pub run_lines-worker-requires-clause-begins : goal.run_lines-worker-requires-clause-begins
run_lines-worker-requires-clause-begins g c κs within =
    subst (λ ps. AllServe g.V.Volume.keeper g.A.Application.behaviour c.args.shared.now c.args.self.client [] ps) (sym c.as_mut_slice-passes.ensures.value) c.requires.ready.begins

pub returns : goal.returns
returns g c = has_run g.V.Volume.keeper g.A.Application.behaviour c.args.shared.now c.args.lines.now c.args.self _
    c.run_lines-worker.new.passes
    (refilled c.args.self.passes.items c.run_lines-worker.new.passes c.args.self.passes.len
    (c.run_lines-worker.ensures.known.as_many ∙ ap (λ ps. length ps) c.as_mut_slice-passes.ensures.value) (search rules))
    refl
    (subst (λ ps. AllKnowMore ps c.run_lines-worker.new.passes) c.as_mut_slice-passes.ensures.value c.run_lines-worker.ensures.known)
    c.run_lines-worker.ensures.ok c.run_lines-worker.ensures.err c.run_lines-worker.ensures.full
