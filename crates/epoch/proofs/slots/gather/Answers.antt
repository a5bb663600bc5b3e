use Rattle.std.proofs.Common.{true, false}
use Rattle.epoch.proofs.CallLemmas.{call_more, run_more, run_stops}
use Rattle.epoch.proofs.PastLemmas.{once, followed}
use Rattle.epoch.proofs.RunLemmas.{over_counter}
use Rattle.epoch.proofs.slots.gather.Goals as goal

pub returns-in_err-second-clause-run : goal.returns-in_err-second-clause-run
returns-in_err-second-clause-run g c h open_at base low high first run =
    c.in_err-second.ensures.run (c.in_ok-first.ensures.honest h) open_at base low high first (c.in_ok-first.ensures.run h open_at base low high first run)

pub returns-in_err-counter-clause-run : goal.returns-in_err-counter-clause-run
returns-in_err-counter-clause-run g c h open_at base low high first run =
    let one = c.in_ok-first.ensures.honest h in
    let two = c.in_ok-second.ensures.honest one in
    let n = c.in_err-counter.ensures.honest two in
    over_counter open_at base low high first _ _ (c.in_ok-second.ensures.run one open_at base low high first (c.in_ok-first.ensures.run h open_at base low high first run)) n.1 _ n.2

pub returns-clause-run : goal.returns-clause-run
returns-clause-run g c h open_at base low high first run =
    let one = c.in_ok-first.ensures.honest h in
    let two = c.in_ok-second.ensures.honest one in
    let n = c.in_ok-counter.ensures.honest two in
    over_counter open_at base low high first _ _ (c.in_ok-second.ensures.run one open_at base low high first (c.in_ok-first.ensures.run h open_at base low high first run)) n.1 _ n.2

pub returns-in_err-second-clause-past : goal.returns-in_err-second-clause-past
returns-in_err-second-clause-past g c h =
    let one = c.in_ok-first.ensures.honest h in
    followed _ _ _ (c.in_ok-first.ensures.past h) (c.in_err-second.ensures.past one)

pub returns-in_err-counter-clause-past : goal.returns-in_err-counter-clause-past
returns-in_err-counter-clause-past g c h =
    let one = c.in_ok-first.ensures.honest h in
    let two = c.in_ok-second.ensures.honest one in
    followed _ _ _ (c.in_ok-first.ensures.past h) (followed _ _ _ (c.in_ok-second.ensures.past one) (once _ _ (c.in_err-counter.ensures.honest two).1))

pub returns-clause-past : goal.returns-clause-past
returns-clause-past g c h =
    let one = c.in_ok-first.ensures.honest h in
    let two = c.in_ok-second.ensures.honest one in
    followed _ _ _ (c.in_ok-first.ensures.past h) (followed _ _ _ (c.in_ok-second.ensures.past one) (once _ _ (c.in_ok-counter.ensures.honest two).1))

pub returns-in_err-first-clause-calls : goal.returns-in_err-first-clause-calls
returns-in_err-first-clause-calls g c = run_stops c.from_residual.result _ _ c.from_residual.ensures.0 c.in_err-first.ensures.calls

pub returns-in_err-second-clause-calls : goal.returns-in_err-second-clause-calls
returns-in_err-second-clause-calls g c =
    run_stops c.from_residual-in_err-second.result _ _ c.from_residual-in_err-second.ensures.0 (run_more false _ _ _ c.in_ok-first.ensures.calls c.in_err-second.ensures.calls)

pub returns-in_err-counter-clause-calls : goal.returns-in_err-counter-clause-calls
returns-in_err-counter-clause-calls g c =
    let looked = run_more true _ _ _ c.in_ok-first.ensures.calls c.in_ok-second.ensures.calls in
    run_stops c.from_residual-in_err-counter.result _ _ c.from_residual-in_err-counter.ensures.0 (call_more false _ _ _ looked c.in_err-counter.ensures.call)

pub returns-clause-calls : goal.returns-clause-calls
returns-clause-calls g c = call_more true _ _ _ (run_more true _ _ _ c.in_ok-first.ensures.calls c.in_ok-second.ensures.calls) c.in_ok-counter.ensures.call
