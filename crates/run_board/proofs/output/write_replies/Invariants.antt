use Rattle.std.proofs.Common.{◌≤◌}
use Rattle.report.specs.Texts.{reply_text}
use Rattle.run_board.proofs.Writing.{WrittenTo}
use Rattle.run_board.proofs.output.write_replies.Given as goal

-- what was written so far and the lines of the replies from here on are those of all
abbrev pub invariant-loop-reply : goal.invariant-loop-reply
invariant-loop-reply g l = record {
  front : WrittenTo (reply_text l.name) l.replies l.reply-index (g.W.Sink.written l.fn.sink) (g.W.Sink.written l.sink);
  later : g.W.Sink.failures l.fn.sink ≤ g.W.Sink.failures l.sink;
}
