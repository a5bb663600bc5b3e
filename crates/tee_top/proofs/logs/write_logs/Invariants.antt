use Rattle.std.proofs.Common.{◌≤◌, length}
use Rattle.tee_top.proofs.LogsWritten.{LogsTo}
use Rattle.tee_top.proofs.logs.write_logs.Given as goal

-- the logs so far were written
abbrev pub invariant-loop-name : goal.invariant-loop-name
invariant-loop-name g l = record {
  front : LogsTo l.names l.logs (length l.yielded) (g.W.Sink.written l.fn.sink) (g.W.Sink.written l.sink);
  later : g.W.Sink.failures l.fn.sink ≤ g.W.Sink.failures l.sink;
}
