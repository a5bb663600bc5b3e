use Rattle.std.proofs.Common.{◌≤◌, ◌+◌, length, subst}
use Rattle.tee_base.specs.declared.limits.TheConstants.{MAX_SESSIONS, MAX_OPERATIONS}
use Rattle.op_queue.specs.Queue.{Queue}
use Rattle.op_queue.proofs.Keeps.{all_few}
use Rattle.op_queue.proofs.queue.OpQueue.bounds.Goals as goal

pub returns-clause-all : goal.returns-clause-all
returns-clause-all c = subst (λ (q : Queue). length q.operations ≤ MAX_OPERATIONS + MAX_SESSIONS) c.self.view_is
    (all_few (record { next = c.self.inside.next; operations = c.self.inside.operations.items }) c.self.invariant)
