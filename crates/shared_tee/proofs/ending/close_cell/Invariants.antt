use Rattle.std.proofs.Common.{◌≡◌, drop}
use Rattle.turn_cell.specs.Words.{IsSeatOf, view as known}
use Rattle.shared_tee.proofs.CellEnds.{HasJoined}
use Rattle.shared_tee.proofs.ending.close_cell.Given as goal

-- the parts of the first clients came back
abbrev pub invariant-loop-client : goal.invariant-loop-client
invariant-loop-client g l = record {
  own : IsSeatOf l.cell l.seat;
  joined : HasJoined g.V.Volume.keeper g.A.Application.behaviour l.fn.passes.items l.client (known l.seat);
  rest : l.passes.items ≡ drop l.client l.fn.passes.items;
}
