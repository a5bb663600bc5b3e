use Rattle.std.proofs.Common.{rules}
use Rattle.turn_cell.proofs.cell.TurnCell.give.Goals as goal

pub invariant_of-seat : goal.invariant_of-seat
invariant_of-seat g c = search rules
