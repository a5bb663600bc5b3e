use Rattle.std.proofs.Common.{◌≡◌, ◌≤◌, ◌++◌, List, ℕ, length}
use Rattle.std.specs.Io.KnownBytes.{Appends}
use Rattle.tee_base.proofs.transfer.write_all.Given as goal

-- what was written so far and the rest make the piece
abbrev pub invariant-loop-rest : goal.invariant-loop-rest
invariant-loop-rest g l = record {
  front : (front : List ℕ) × (l.fn.piece ≡ front ++ l.rest) × Appends (g.W.Sink.written l.fn.sink) (g.W.Sink.written l.sink) front;
  later : g.W.Sink.failures l.fn.sink ≤ g.W.Sink.failures l.sink;
}

abbrev pub decreases-loop-rest : goal.decreases-loop-rest
decreases-loop-rest g l = length l.rest
