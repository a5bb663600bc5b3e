use Rattle.std.proofs.Common.{rules}
use Rattle.board.proofs.fuse.Fuse.next.Goals as goal

pub returns-in-Passing-eq0-clause-burnt : goal.returns-in-Passing-eq0-clause-burnt
returns-in-Passing-eq0-clause-burnt c = search rules
