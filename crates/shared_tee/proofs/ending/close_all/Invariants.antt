use Rattle.std.proofs.Common.{◌≡◌, length}
use Rattle.std.specs.Prelude.{vec_capacity}
use Rattle.turn_cell.specs.Words.{IsSeatOf, view as known}
use Rattle.shared_tee.proofs.AllEnd.{HasClosed}
use Rattle.shared_tee.proofs.ending.close_all.Given as goal

-- the first cells ended
abbrev pub invariant-loop-cell : goal.invariant-loop-cell
invariant-loop-cell g l = record {
  own : IsSeatOf l.storage l.seat;
  closed : HasClosed g.V.Volume.keeper g.A.Application.behaviour l.fn.cells.items l.cells.items l.fn.passes.items l.passes.items l.logs.items (known l.seat);
  room : vec_capacity l.logs ≡ vec_capacity l.fn.logs;
}

abbrev pub decreases-loop-cell : goal.decreases-loop-cell
decreases-loop-cell g l = length l.cells.items
