use Rattle.std.proofs.Common.{rules}
use Rattle.op_queue.proofs.queue.OpQueue.forget.Goals as goal

pub returns : goal.returns
returns c = search rules
