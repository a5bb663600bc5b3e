use Rattle.std.proofs.Common.{rules}
use Rattle.boards.proofs.pending.landed_block.Goals as goal

pub returns-in-0 : goal.returns-in-0
returns-in-0 c = search rules
