use Rattle.std.proofs.Common.{rules}
use Rattle.turn_cell.proofs.cell.TurnCell.try_take.Goals as goal

pub returns-then-word-ne0-clause-missed : goal.returns-then-word-ne0-clause-missed
returns-then-word-ne0-clause-missed g c = search rules
