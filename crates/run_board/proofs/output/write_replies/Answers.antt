use Rattle.std.proofs.Common.{◌∙◌, arith}
use Rattle.std.proofs.lemmas.Result.{err_from_is_err_and}
use Rattle.report.specs.Texts.{reply_text}
use Rattle.run_board.proofs.Writes.{writes_all, writes_none, writes_stopped}
use Rattle.run_board.proofs.Writing.{pieces_cut, pieces_ended, pieces_further, pieces_stopped}
use Rattle.run_board.proofs.output.write_replies.Goals as goal

pub returns-in_err-line : goal.returns-in_err-line
returns-in_err-line g c =
    let stop = err_from_is_err_and c.from_residual.result c.from_residual.ensures.1 in
    rw (stop.1, stop.2)
    (writes_none g.W.Sink _ c.args.sink.now c.loop-reply.sink
    (pieces_stopped (reply_text c.args.name.now) c.args.replies.now c.loop-reply.reply-index _ _ c.loop-reply.invariant.front) c.loop-reply.invariant.later)

pub returns-in_err-write_bytes : goal.returns-in_err-write_bytes
returns-in_err-write_bytes g c =
    let stop = err_from_is_err_and c.from_residual-in_err-write_bytes.result c.from_residual-in_err-write_bytes.ensures.1 in
    rw (stop.1, stop.2)
    (writes_stopped g.W.Sink c.as_slice.result.now _ _ c.args.sink.now c.loop-reply.sink c.write_bytes.new.sink
    (λ front.
    pieces_cut (reply_text c.args.name.now) c.args.replies.now c.loop-reply.reply-index c.reply-item.result c.as_slice.result.now _ _ _ c.loop-reply-test.true c.reply-item.is
    (c.as_slice.ensures ∙ c.in_ok-line.ensures) c.loop-reply.invariant.front front)
    c.loop-reply.invariant.later c.in_err-write_bytes.ensures)

pub returns : goal.returns
returns g c =
    writes_all g.W.Sink _ _ c.args.sink.now c.loop-reply.sink
    (pieces_ended (reply_text c.args.name.now) c.args.replies.now c.loop-reply.reply-index _ _ (omega arith) c.loop-reply.invariant.front) c.loop-reply.invariant.later

pub loop-reply-preserved : goal.loop-reply-preserved
loop-reply-preserved g c = record {
  front =
      pieces_further (reply_text c.args.name.now) c.args.replies.now c.loop-reply.reply-index c.reply-item.result c.as_slice.result.now _ _ _ c.loop-reply-test.true c.reply-item.is
      (c.as_slice.ensures ∙ c.in_ok-line.ensures) c.loop-reply.invariant.front c.in_ok-write_bytes.ensures.ok;
  later = omega (arith, c.loop-reply.invariant.later, c.in_ok-write_bytes.ensures.later);
}
