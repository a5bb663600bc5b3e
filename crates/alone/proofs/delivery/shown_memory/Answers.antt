use Rattle.std.proofs.Common.{rules}
use Rattle.alone.proofs.delivery.shown_memory.Goals as goal

pub returns-in-Mem : goal.returns-in-Mem
returns-in-Mem c = search rules
