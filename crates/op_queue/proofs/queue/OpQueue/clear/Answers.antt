use Rattle.std.proofs.Common.{◌==◌, not, List, sym, subst}
use Rattle.op_queue.specs.declared.operation.Operation.{Operation}
use Rattle.op_queue.specs.Queue.{IsQueue}
use Rattle.op_queue.proofs.Keeps.{filter_IsQueue}
use Rattle.op_queue.proofs.queue.OpQueue.clear.Goals as goal

pub invariant_of-self : goal.invariant_of-self
invariant_of-self c = subst (λ (os : List Operation). IsQueue (record { next = c.self.inside.next; operations = os })) (sym c.leave_out.ensures)
    (filter_IsQueue (record { next = c.self.inside.next; operations = c.self.inside.operations.items }) (λ o. not (o.instance == c.args.instance)) c.self.invariant)
