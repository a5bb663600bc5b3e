use Rattle.std.proofs.Common.{rules}
use Rattle.board.proofs.RefMutBoard.sync.Goals as goal

pub returns-clause-call : goal.returns-clause-call
returns-clause-call g c = search rules

pub returns-clause-honest : goal.returns-clause-honest
returns-clause-honest g c = search rules
