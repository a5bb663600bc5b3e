use Rattle.std.proofs.Common.{◌∙◌, [], refl, arith}
use Rattle.std.proofs.lemmas.Result.{err_from_is_err_and, on_err_weaker, on_ok_weaker}
use Rattle.script.specs.declared.line.Line.TheVariants as lines
use Rattle.tee_core.specs.declared.happened.Event.TheVariants as events
use Rattle.tee_core.proofs.SideLemmas.{side_at}
use Rattle.run_board.specs.Parts.{step_events}
use Rattle.run_board.specs.Transcript.{line_events}
use Rattle.run_board.proofs.Calls.{behind_call, call_begins, call_stopped, call_whole}
use Rattle.run_board.proofs.Layers.{same_end, stops_within}
use Rattle.run_board.proofs.Losses.{losses_both}
use Rattle.run_board.proofs.Parts.{orders_both, rose_later}
use Rattle.run_board.proofs.lines.run_call.Goals as goal

pub returns-in_err-op : goal.returns-in_err-op
returns-in_err-op g c =
    let behaviour = g.A.Application.behaviour in
    let tee = c.args.tee.now in
    let app = c.args.app in
    let client = c.args.client in
    let call = c.args.call in
    let stop = err_from_is_err_and c.from_residual.result c.from_residual.ensures.1 in
    rw (stop.1, stop.2)
    (stops_within behaviour g.V.BoardVolume.form c.args.names.now (λ world weather. step_events behaviour weather world (events.Call app client call))
    (λ world weather. line_events behaviour weather world (lines.Call app client c.args.post call)) _ _ _ c.in_err-op.ensures.made
    (λ world stands.
    let p = side_at tee.sides.items world app stands.stand.sides_are c.requires.known in
    (λ weather. behind_call behaviour weather world app client call p.0 c.args.post, λ weather. call_begins behaviour weather world app client call p.0 c.args.post p.1)))

pub returns-then-post : goal.returns-then-post
returns-then-post g c =
    let behaviour = g.A.Application.behaviour in
    rw c.if-post.true
    (same_end behaviour g.V.BoardVolume.form c.args.names.now (λ world weather. step_events behaviour weather world (events.Call c.args.app c.args.client c.args.call)) _ _ _ _
    c.in_ok-op.ensures.made)

pub returns : goal.returns
returns g c =
    let behaviour = g.A.Application.behaviour in
    let form = g.V.BoardVolume.form in
    let names = c.args.names.now in
    let tee = c.args.tee.now in
    let app = c.args.app in
    let client = c.args.client in
    let call = c.args.call in
    let op = c.in_ok-op.op in
    let instance = c.in_ok-op.instance in
    let first = c.in_ok-op.ensures.made in
    let more = c.run_until.ensures in
    rw c.if-post.false (record {
      whole = on_ok_weaker c.run_until.result
          (λ until w stands.
          let p = side_at tee.sides.items w app stands.stand.sides_are c.requires.known in
          let number = c.in_ok-op.ensures.called w p.0 client call stands p.1 refl in
          call_whole behaviour form names _ _ w p.0 app client instance op call p.1 number.0 number.1 _ _ _ (first.whole w stands) until)
          more.whole;
      stopped = on_err_weaker c.run_until.result
          (λ until w stands.
          let p = side_at tee.sides.items w app stands.stand.sides_are c.requires.known in
          let number = c.in_ok-op.ensures.called w p.0 client call stands p.1 refl in
          call_stopped behaviour form names _ w p.0 app client instance op call p.1 number.0 number.1 _ _ _ (first.whole w stands) until)
          more.stopped;
      served = more.served;
      orders = orders_both [] [] _ _ _ first.orders more.orders;
      losses = on_ok_weaker c.run_until.result (λ until. losses_both _ _ _ _ _ _ first.losses until) more.losses;
      honest = λ h. more.honest (first.honest h);
      apps = more.apps ∙ first.apps;
      fault = λ is. rose_later _ _ _ first.later (more.fault is);
      later = omega (arith, first.later, more.later);
    })
