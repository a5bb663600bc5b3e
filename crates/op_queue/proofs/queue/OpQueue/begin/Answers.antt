use Rattle.std.proofs.Common.{◌≡◌, ℕ, List, Option, None, Some, get_or, set, map, find, position, refl, sym, ap, subst, ◌∙◌}
use Rattle.op_queue.specs.declared.operation.Operation.{Operation}
use Rattle.op_queue.specs.Queue.{Queue, IsQueue, waits_for, first_waiting, begun_at, as_running, after_begin}
use Rattle.op_queue.proofs.Keeps.{started_IsQueue}
use Rattle.op_queue.proofs.Places.{place_inside, place_found, place_none, started_here}
use Rattle.op_queue.proofs.queue.OpQueue.begin.Goals as goal

none_waits : (q now : Queue) (instance : ℕ) (xs : List Operation) (r : Option ℕ) → q ≡ now → xs ≡ q.operations → r ≡ position (waits_for instance) xs → r ≡ None → first_waiting now instance ≡ None
none_waits q now instance xs r same list at none = ap (λ (w : Queue). first_waiting w instance) (sym same) ∙ ap (find (waits_for instance)) (sym list)
    ∙ place_none (waits_for instance) xs (sym at ∙ none)

-- the operation that waits at the place that was found
waiting : (q now : Queue) (instance : ℕ) (xs : List Operation) (i : ℕ) (x : Operation) → q ≡ now → xs ≡ q.operations → Some i ≡ position (waits_for instance) xs →
    x ≡ get_or q.operations i x → first_waiting now instance ≡ Some x
waiting q now instance xs i x same list at read = ap (λ (w : Queue). first_waiting w instance) (sym same)
    ∙ place_found (waits_for instance) q.operations i x (ap (position (waits_for instance)) (sym list) ∙ sym at) read

starts : (q : Queue) (instance : ℕ) (xs : List Operation) (i : ℕ) (x y : Operation) → IsQueue q → xs ≡ q.operations → Some i ≡ position (waits_for instance) xs →
    x ≡ get_or q.operations i x → y ≡ as_running x.number x → set q.operations i y ≡ map (as_running x.number) q.operations
starts q instance xs i x y old list at read changed = started_here x.number q.operations i x y old.ordered
    (place_inside (waits_for instance) q.operations i x (ap (position (waits_for instance)) (sym list) ∙ sym at)) read refl changed

pub returns-in_err-index-clause-begun : goal.returns-in_err-index-clause-begun
returns-in_err-index-clause-begun c = c.from_residual.ensures ∙ ap begun_at (sym (none_waits (record { next = c.self.inside.next; operations = c.self.inside.operations.items })
    c.args.self.now c.args.instance c.as_slice.result.now c.place_of_waiting.result c.self.view_is c.as_slice.ensures.value c.place_of_waiting.ensures c.in_err-index.was))

pub returns-in_err-index-clause-after : goal.returns-in_err-index-clause-after
returns-in_err-index-clause-after c = ap (after_begin c.args.self.now) (sym (none_waits (record { next = c.self.inside.next; operations = c.self.inside.operations.items })
    c.args.self.now c.args.instance c.as_slice.result.now c.place_of_waiting.result c.self.view_is c.as_slice.ensures.value c.place_of_waiting.ensures c.in_err-index.was))

pub invariant_of-self : goal.invariant_of-self
invariant_of-self c =
    let list : set c.self.inside.operations.items c.in_ok-index.index c.start.new.self ≡ map (as_running c.index_mut.result.now.number) c.self.inside.operations.items =
    starts (record { next = c.self.inside.next; operations = c.self.inside.operations.items }) c.args.instance c.as_slice.result.now c.in_ok-index.index c.index_mut.result.now
    c.start.new.self c.self.invariant c.as_slice.ensures.value c.in_ok-index.ensures c.index_mut.ensures.value c.start.ensures.after in
    subst (λ (os : List Operation). IsQueue (record { next = c.self.inside.next; operations = os })) (sym list)
    (started_IsQueue (record { next = c.self.inside.next; operations = c.self.inside.operations.items }) c.index_mut.result.now.number c.self.invariant)

pub returns-clause-begun : goal.returns-clause-begun
returns-clause-begun c = c.start.ensures.begun ∙ ap begun_at (sym (waiting (record { next = c.self.inside.next; operations = c.self.inside.operations.items }) c.args.self.now
    c.args.instance c.as_slice.result.now c.in_ok-index.index c.index_mut.result.now c.self.view_is c.as_slice.ensures.value c.in_ok-index.ensures c.index_mut.ensures.value))

pub returns-clause-after : goal.returns-clause-after
returns-clause-after c =
    let list : set c.self.inside.operations.items c.in_ok-index.index c.start.new.self ≡ map (as_running c.index_mut.result.now.number) c.self.inside.operations.items =
    starts (record { next = c.self.inside.next; operations = c.self.inside.operations.items }) c.args.instance c.as_slice.result.now c.in_ok-index.index c.index_mut.result.now
    c.start.new.self c.self.invariant c.as_slice.ensures.value c.in_ok-index.ensures c.index_mut.ensures.value c.start.ensures.after in
    let found : first_waiting c.args.self.now c.args.instance ≡ Some c.index_mut.result.now = waiting
    (record { next = c.self.inside.next; operations = c.self.inside.operations.items }) c.args.self.now c.args.instance c.as_slice.result.now c.in_ok-index.index
    c.index_mut.result.now c.self.view_is c.as_slice.ensures.value c.in_ok-index.ensures c.index_mut.ensures.value in
    ap (λ (os : List Operation). (let q : Queue = record { next = c.self.inside.next; operations = os } in q)) list
    ∙ ap (λ (q : Queue). after_begin q (Some c.index_mut.result.now)) c.self.view_is ∙ ap (after_begin c.args.self.now) (sym found)
