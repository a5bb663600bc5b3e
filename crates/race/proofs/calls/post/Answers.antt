use Rattle.std.proofs.Common.{◌≡◌, [], Err, rules}
use Rattle.alone.specs.Logs.{bytes_of_call}
use Rattle.race.specs.Clients.{GoesBy}
use Rattle.race.proofs.GoLemmas.{err_is, knows_by, on_err, posts_once, posts_then, refused_goes, refused_names, refused_stop, waits_on}
use Rattle.race.proofs.calls.post.Goals as goal

pub returns-in-Ok-clause-ok : goal.returns-in-Ok-clause-ok
returns-in-Ok-clause-ok g c =
    let p = c.args.pass.now in
    let q = c.loop.pass in
    let r = c.try_post.new.pass in
    posts_then g.V.Volume.keeper g.A.Application.behaviour c.args.call.now c.in-Ok.posted p q r c.loop.invariant.goes
    (posts_once g.V.Volume.keeper g.A.Application.behaviour c.args.call.now c.in-Ok.posted q r (knows_by 1 q r c.try_post.ensures.goes) c.in-Ok.ensures.ok)

pub pause-requires-clause-cell : goal.pause-requires-clause-cell
pause-requires-clause-cell g c =
    let q = c.loop.pass in
    let r = c.try_post.new.pass in
    refused_names c.in-Err.why (bytes_of_call c.args.call.now) q r (knows_by 1 q r c.try_post.ensures.goes) c.in-Err.ensures.err

pub loop-preserved : goal.loop-preserved
loop-preserved g c =
    let p = c.args.pass.now in
    let q = c.loop.pass in
    let r = c.try_post.new.pass in
    record {
      of = c.pause.ensures.of;
      goes = waits_on p q r c.pause.new.pass c.loop.invariant.goes
          (refused_goes c.in-Err.why (bytes_of_call c.args.call.now) q r (knows_by 1 q r c.try_post.ensures.goes) c.in-Err.ensures.err) c.pause.ensures.goes;
    }

pub returns-in_err-pause-in-Err-clause-same : goal.returns-in_err-pause-in-Err-clause-same
returns-in_err-pause-in-Err-clause-same g c =
    let p = c.args.pass.now in
    let q = c.loop.pass in
    let r = c.try_post.new.pass in
    on_err (GoesBy [] p c.pause.new.pass) c.from_residual.result (waits_on p q r c.pause.new.pass c.loop.invariant.goes
    (refused_goes c.in-Err.why (bytes_of_call c.args.call.now) q r (knows_by 1 q r c.try_post.ensures.goes) c.in-Err.ensures.err) c.pause.ensures.goes)

pub returns-in_err-pause-in-Err-clause-err : goal.returns-in_err-pause-in-Err-clause-err
returns-in_err-pause-in-Err-clause-err g c =
    let p = c.args.pass.now in
    let q = c.loop.pass in
    let r = c.try_post.new.pass in
    let is : c.from_residual.result ≡ Err c.in_err-pause-in-Err.field-0.0 = search rules in
    err_is _ c.from_residual.result c.in_err-pause-in-Err.field-0.0 is
    (refused_stop c.in-Err.why (bytes_of_call c.args.call.now) c.in_err-pause-in-Err.field-0.0 p q r c.pause.new.pass c.loop.invariant.goes
    (knows_by 1 q r c.try_post.ensures.goes) c.in-Err.ensures.err c.in_err-pause-in-Err.ensures.err c.in_err-pause-in-Err.ensures.same)
