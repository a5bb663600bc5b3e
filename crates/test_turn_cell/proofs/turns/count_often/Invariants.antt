-- Between the turns the seat has its one part, and not the value.
use Rattle.std.proofs.Common.{◌≡◌, length}
use Rattle.turn_cell.specs.Words.{view, IsFree, IsSeatOf}
use Rattle.test_turn_cell.proofs.turns.count_often.Given as goal

abbrev pub invariant-loop : goal.invariant-loop
invariant-loop g l = IsSeatOf l.cell l.seat × IsFree l.seat × ((view l.seat).first ≡ l.part) × (length (view l.seat).own ≡ 1)
