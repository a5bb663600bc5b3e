use Rattle.std.proofs.Common.{◌≡◌, ◌==◌, not, true, false, List, set, map, filter, sym, ap, subst, ◌∙◌}
use Rattle.op_queue.specs.declared.operation.Operation.{Operation}
use Rattle.op_queue.specs.declared.operation.Cancelled.TheVariants.{Flagged}
use Rattle.op_queue.specs.Queue.{Queue, IsQueue, cancel_of, after_cancel, as_requested, without}
use Rattle.op_queue.proofs.Keeps.{requested_IsQueue, without_IsQueue}
use Rattle.op_queue.proofs.Places.{no_operation, found_at, the_operation, requests, operation_removed, cancel_close, cancel_open}
use Rattle.op_queue.proofs.queue.OpQueue.cancel.Goals as goal

pub returns-in_default-clause-answer : goal.returns-in_default-clause-answer
returns-in_default-clause-answer c = sym (ap cancel_of (no_operation (record { next = c.self.inside.next; operations = c.self.inside.operations.items }) c.args.self.now c.args.op
    c.as_slice.result.now c.self.view_is c.as_slice.ensures.value c.in_default.ensures))

pub returns-then-is_close-clause-answer : goal.returns-then-is_close-clause-answer
returns-then-is_close-clause-answer c = cancel_close _ c.index.result.now (the_operation (record { next = c.self.inside.next; operations = c.self.inside.operations.items })
    c.args.self.now c.args.op c.in-Some.index c.index.result.now c.self.view_is (found_at c.args.op c.as_slice.result.now c.self.inside.operations.items c.in-Some.index
    c.as_slice.ensures.value c.in-Some.ensures) c.index.ensures) (sym c.is_close.ensures ∙ c.if-is_close.true)

pub invariant_of-self : goal.invariant_of-self
invariant_of-self c =
    let list : set c.self.inside.operations.items c.in-Some.index c.request.new.self ≡ map (as_requested c.args.op) c.self.inside.operations.items =
    (requests (record { next = c.self.inside.next; operations = c.self.inside.operations.items }) c.args.op c.in-Some.index c.index_mut.result.now c.request.new.self
    c.self.invariant (found_at c.args.op c.as_slice.result.now c.self.inside.operations.items c.in-Some.index c.as_slice.ensures.value c.in-Some.ensures)
    c.index_mut.ensures.value c.request.ensures) in
    subst (λ (os : List Operation). IsQueue (record { next = c.self.inside.next; operations = os })) (sym list)
    (requested_IsQueue (record { next = c.self.inside.next; operations = c.self.inside.operations.items }) c.args.op c.self.invariant)

pub returns-then-is_running-clause-answer : goal.returns-then-is_running-clause-answer
returns-then-is_running-clause-answer c = cancel_open _ c.index.result.now c.index-2.result.now true
    (the_operation (record { next = c.self.inside.next; operations = c.self.inside.operations.items }) c.args.self.now c.args.op c.in-Some.index c.index.result.now c.self.view_is
    (found_at c.args.op c.as_slice.result.now c.self.inside.operations.items c.in-Some.index c.as_slice.ensures.value c.in-Some.ensures) c.index.ensures)
    (sym c.is_close.ensures ∙ c.if-is_close.false) (the_operation (record { next = c.self.inside.next; operations = c.self.inside.operations.items }) c.args.self.now c.args.op
    c.in-Some.index c.index-2.result.now c.self.view_is (found_at c.args.op c.as_slice.result.now c.self.inside.operations.items c.in-Some.index c.as_slice.ensures.value
    c.in-Some.ensures) c.index-2.ensures) (sym c.is_running.ensures ∙ c.if-is_running.true)

pub returns-then-is_running-clause-after : goal.returns-then-is_running-clause-after
returns-then-is_running-clause-after c =
    let list : set c.self.inside.operations.items c.in-Some.index c.request.new.self ≡ map (as_requested c.args.op) c.self.inside.operations.items =
    (requests (record { next = c.self.inside.next; operations = c.self.inside.operations.items }) c.args.op c.in-Some.index c.index_mut.result.now c.request.new.self
    c.self.invariant (found_at c.args.op c.as_slice.result.now c.self.inside.operations.items c.in-Some.index c.as_slice.ensures.value c.in-Some.ensures)
    c.index_mut.ensures.value c.request.ensures) in
    ap (λ (os : List Operation). (let q : Queue = record { next = c.self.inside.next; operations = os } in q)) list ∙ ap (λ (q : Queue). after_cancel q c.args.op Flagged) c.self.view_is

pub invariant_of-self-2 : goal.invariant_of-self-2
invariant_of-self-2 c =
    let list : c.take_out.new.operations.items ≡ filter (λ o. not (o.number == c.args.op)) c.self.inside.operations.items =
    (c.take_out.ensures ∙ operation_removed c.self.inside.operations.items c.in-Some.index c.args.op c.self.invariant.ordered
    (found_at c.args.op c.as_slice.result.now c.self.inside.operations.items c.in-Some.index c.as_slice.ensures.value c.in-Some.ensures)) in
    subst (λ (os : List Operation). IsQueue (record { next = c.self.inside.next; operations = os })) (sym list)
    (without_IsQueue (record { next = c.self.inside.next; operations = c.self.inside.operations.items }) c.args.op c.self.invariant)

pub returns-clause-answer : goal.returns-clause-answer
returns-clause-answer c = cancel_open _ c.index.result.now c.index-2.result.now false (the_operation
    (record { next = c.self.inside.next; operations = c.self.inside.operations.items }) c.args.self.now c.args.op c.in-Some.index c.index.result.now c.self.view_is
    (found_at c.args.op c.as_slice.result.now c.self.inside.operations.items c.in-Some.index c.as_slice.ensures.value c.in-Some.ensures) c.index.ensures)
    (sym c.is_close.ensures ∙ c.if-is_close.false) (the_operation (record { next = c.self.inside.next; operations = c.self.inside.operations.items }) c.args.self.now c.args.op
    c.in-Some.index c.index-2.result.now c.self.view_is (found_at c.args.op c.as_slice.result.now c.self.inside.operations.items c.in-Some.index c.as_slice.ensures.value
    c.in-Some.ensures) c.index-2.ensures) (sym c.is_running.ensures ∙ c.if-is_running.false)

pub returns-clause-after : goal.returns-clause-after
returns-clause-after c =
    let list : c.take_out.new.operations.items ≡ filter (λ o. not (o.number == c.args.op)) c.self.inside.operations.items =
    (c.take_out.ensures ∙ operation_removed c.self.inside.operations.items c.in-Some.index c.args.op c.self.invariant.ordered
    (found_at c.args.op c.as_slice.result.now c.self.inside.operations.items c.in-Some.index c.as_slice.ensures.value c.in-Some.ensures)) in
    ap (λ (os : List Operation). (let q : Queue = record { next = c.self.inside.next; operations = os } in q)) list ∙ ap (λ (q : Queue). without q c.args.op) c.self.view_is
