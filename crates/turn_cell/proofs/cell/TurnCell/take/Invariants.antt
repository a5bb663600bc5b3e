-- While a seat waits, only the word that it found changes, and how often it tried.
use Rattle.std.proofs.Common.{◌≡◌, ◌≤◌}
use Rattle.turn_cell.specs.View.{with_word, with_waits}
use Rattle.turn_cell.specs.Words.{view, IsFree, IsSeatOf}
use Rattle.turn_cell.proofs.cell.TurnCell.take.Given as goal

abbrev pub invariant-loop : goal.invariant-loop
invariant-loop g l = IsSeatOf l.self l.seat × IsFree l.seat × (view l.seat ≡ with_word (with_waits (view l.initial.seat) (view l.seat).waiting_tries) (view l.seat).found_word)
    × ((view l.initial.seat).waiting_tries ≤ (view l.seat).waiting_tries)
