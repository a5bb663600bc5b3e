use Rattle.std.proofs.Common.{rules}
use Rattle.boards.proofs.disk.Disk.settle.Goals as goal

pub returns-clause-counter : goal.returns-clause-counter
returns-clause-counter c = search rules
