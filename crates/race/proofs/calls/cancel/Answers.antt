use Rattle.std.proofs.Common.{◌≡◌, [], Err, refl, rules}
use Rattle.alone.specs.Step.{Cancelled}
use Rattle.race.specs.Clients.{GoesBy}
use Rattle.race.proofs.GoLemmas.{err_is, knows_by, makes_once, makes_then, on_err, refused_goes, refused_names, refused_stop, waits_on}
use Rattle.race.proofs.calls.cancel.Goals as goal

pub returns-in-Ok-clause-ok : goal.returns-in-Ok-clause-ok
returns-in-Ok-clause-ok g c =
    let p = c.args.pass.now in
    let q = c.loop.pass in
    let r = c.request_cancellation.new.pass in
    makes_then (Cancelled c.args.op) p q r c.loop.invariant.goes (makes_once (Cancelled c.args.op) 0 q r refl (knows_by 1 q r c.request_cancellation.ensures.goes) c.in-Ok.ensures.ok)

pub pause-requires-clause-cell : goal.pause-requires-clause-cell
pause-requires-clause-cell g c =
    let q = c.loop.pass in
    let r = c.request_cancellation.new.pass in
    refused_names c.in-Err.why 0 q r (knows_by 1 q r c.request_cancellation.ensures.goes) c.in-Err.ensures.err

pub loop-preserved : goal.loop-preserved
loop-preserved g c =
    let p = c.args.pass.now in
    let q = c.loop.pass in
    let r = c.request_cancellation.new.pass in
    record {
      of = c.pause.ensures.of;
      goes = waits_on p q r c.pause.new.pass c.loop.invariant.goes
          (refused_goes c.in-Err.why 0 q r (knows_by 1 q r c.request_cancellation.ensures.goes) c.in-Err.ensures.err) c.pause.ensures.goes;
    }

pub returns-in_err-pause-in-Err-clause-same : goal.returns-in_err-pause-in-Err-clause-same
returns-in_err-pause-in-Err-clause-same g c =
    let p = c.args.pass.now in
    let q = c.loop.pass in
    let r = c.request_cancellation.new.pass in
    on_err (GoesBy [] p c.pause.new.pass) c.from_residual.result (waits_on p q r c.pause.new.pass c.loop.invariant.goes
    (refused_goes c.in-Err.why 0 q r (knows_by 1 q r c.request_cancellation.ensures.goes) c.in-Err.ensures.err) c.pause.ensures.goes)

pub returns-in_err-pause-in-Err-clause-err : goal.returns-in_err-pause-in-Err-clause-err
returns-in_err-pause-in-Err-clause-err g c =
    let p = c.args.pass.now in
    let q = c.loop.pass in
    let r = c.request_cancellation.new.pass in
    let is : c.from_residual.result ≡ Err c.in_err-pause-in-Err.field-0.0 = search rules in
    err_is _ c.from_residual.result c.in_err-pause-in-Err.field-0.0 is
    (refused_stop c.in-Err.why 0 c.in_err-pause-in-Err.field-0.0 p q r c.pause.new.pass c.loop.invariant.goes
    (knows_by 1 q r c.request_cancellation.ensures.goes) c.in-Err.ensures.err c.in_err-pause-in-Err.ensures.err c.in_err-pause-in-Err.ensures.same)
