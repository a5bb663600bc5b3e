use Rattle.std.proofs.Common.{rules}
use Rattle.test_turn_cell.proofs.tally.Tally.count.Goals as goal

pub returns-then-part-eq0-clause-parts : goal.returns-then-part-eq0-clause-parts
returns-then-part-eq0-clause-parts c = search rules
