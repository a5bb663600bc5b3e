use Rattle.std.proofs.Common.{rules}
use Rattle.op_queue.proofs.scans.take_out.Goals as goal

pub returns : goal.returns
returns c = search rules
