-- The members of the cut: the two views that a cut at this place makes.
use Rattle.turn_cell.specs.View.{left_at, right_at}
use Rattle.turn_cell.proofs.cell.TurnCell.split.Given as goal

abbrev pub ghosts-cut : goal.ghosts-cut
ghosts-cut g a = record { left = left_at a.from; right = right_at a.from }
