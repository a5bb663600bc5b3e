use Rattle.std.proofs.Common.{true, false}
use Rattle.epoch.proofs.CallLemmas.{call_more, run_once, run_stops}
use Rattle.epoch.proofs.PastLemmas.{once, followed}
use Rattle.epoch.proofs.slots.look.Goals as goal

pub returns-in_err-read-clause-past : goal.returns-in_err-read-clause-past
returns-in_err-read-clause-past g c h = once _ _ (c.in_err-read.ensures.honest h).1

pub returns-then-not-is_open-clause-past : goal.returns-then-not-is_open-clause-past
returns-then-not-is_open-clause-past g c h = once _ _ (c.in_ok-read.ensures.honest h).1

pub returns-in_err-read-2-clause-past : goal.returns-in_err-read-2-clause-past
returns-in_err-read-2-clause-past g c h =
    let r = c.in_ok-read.ensures.honest h in
    followed _ _ _ (once _ _ r.1) (once _ _ (c.in_err-read-2.ensures.honest r.0).1)

pub returns-clause-past : goal.returns-clause-past
returns-clause-past g c h =
    let r = c.in_ok-read.ensures.honest h in
    followed _ _ _ (once _ _ r.1) (once _ _ (c.in_ok-read-2.ensures.honest r.0).1)

pub returns-in_err-read-clause-calls : goal.returns-in_err-read-clause-calls
returns-in_err-read-clause-calls g c = run_stops c.from_residual.result _ _ c.from_residual.ensures.0 (run_once false _ _ c.in_err-read.ensures.call)

pub returns-then-not-is_open-clause-calls : goal.returns-then-not-is_open-clause-calls
returns-then-not-is_open-clause-calls g c = run_once true _ _ c.in_ok-read.ensures.call

pub returns-in_err-read-2-clause-calls : goal.returns-in_err-read-2-clause-calls
returns-in_err-read-2-clause-calls g c =
    run_stops c.from_residual-in_err-read-2.result _ _ c.from_residual-in_err-read-2.ensures.0 (call_more false _ _ _ (run_once true _ _ c.in_ok-read.ensures.call) c.in_err-read-2.ensures.call)

pub returns-clause-calls : goal.returns-clause-calls
returns-clause-calls g c = call_more true _ _ _ (run_once true _ _ c.in_ok-read.ensures.call) c.in_ok-read-2.ensures.call
