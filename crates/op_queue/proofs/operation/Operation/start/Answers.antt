use Rattle.std.proofs.Common.{rules}
use Rattle.op_queue.proofs.operation.Operation.start.Goals as goal

pub returns-in-Waiting-clause-after : goal.returns-in-Waiting-clause-after
returns-in-Waiting-clause-after c = search rules

pub returns-in-Running-clause-after : goal.returns-in-Running-clause-after
returns-in-Running-clause-after c = search rules
