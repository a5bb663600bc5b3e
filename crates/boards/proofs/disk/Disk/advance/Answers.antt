use Rattle.std.proofs.Common.{rules}
use Rattle.boards.proofs.disk.Disk.advance.Goals as goal

pub returns-then-ne-clause-unsettled : goal.returns-then-ne-clause-unsettled
returns-then-ne-clause-unsettled c = search rules
