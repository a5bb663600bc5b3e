use Rattle.std.proofs.Common.{◌≡◌, ◌+◌, length, sym, subst, arith}
use Rattle.race.specs.Outcomes.{IsOutcome}
use Rattle.race.proofs.DealLemmas.{found_at}
use Rattle.race.proofs.OutcomeLemmas.{outcome_more}
use Rattle.race.proofs.workers.outcome.Goals as goal

pub loop-worker-preserved : goal.loop-worker-preserved
loop-worker-preserved g c =
    let here = found_at c.args.workers.now c.loop-worker.worker-index c.worker-item.result c.worker-item.is (omega arith) in
    subst (λ r. IsOutcome (c.loop-worker.worker-index + 1) c.args.workers.now r) (sym c.worse-ended.ensures)
    (outcome_more c.args.workers.now c.loop-worker.worker-index c.worker-item.result here c.loop-worker.ended c.loop-worker.invariant)

pub returns : goal.returns
returns g c = subst (λ n. IsOutcome n c.args.workers.now c.loop-worker.ended) (let e : c.loop-worker.worker-index ≡ length c.args.workers.now = omega arith in e) c.loop-worker.invariant
