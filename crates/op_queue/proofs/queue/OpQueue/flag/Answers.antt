use Rattle.std.proofs.Common.{false, Option, sym, ap, ◌∙◌}
use Rattle.op_queue.specs.declared.operation.Operation.{Operation}
use Rattle.op_queue.specs.Queue.{reads_flag, if_operation}
use Rattle.op_queue.proofs.Places.{no_operation, found_at, the_operation}
use Rattle.op_queue.proofs.queue.OpQueue.flag.Goals as goal

pub returns-in-None : goal.returns-in-None
returns-in-None c = sym (ap (λ (o : Option Operation). if_operation o false (λ (o : Operation). reads_flag o.progress))
    (no_operation (record { next = c.self.inside.next; operations = c.self.inside.operations.items }) c.args.self.now c.args.op c.as_slice.result.now c.self.view_is
    c.as_slice.ensures.value c.in-None.ensures))

pub returns-in-Some : goal.returns-in-Some
returns-in-Some c = c.reads_flag.ensures ∙ sym (ap (λ (o : Option Operation). if_operation o false (λ (o : Operation). reads_flag o.progress))
    (the_operation (record { next = c.self.inside.next; operations = c.self.inside.operations.items }) c.args.self.now c.args.op c.in-Some.index c.index.result.now c.self.view_is
    (found_at c.args.op c.as_slice.result.now c.self.inside.operations.items c.in-Some.index c.as_slice.ensures.value c.in-Some.ensures) c.index.ensures))
