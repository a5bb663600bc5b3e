use Rattle.std.proofs.Common.{rules}
use Rattle.turn_cell.proofs.cell.TurnCell.take.Goals as goal

pub returns-in-Ok-clause-waited : goal.returns-in-Ok-clause-waited
returns-in-Ok-clause-waited g c = search rules

pub loop-preserved : goal.loop-preserved
loop-preserved g c = search rules
