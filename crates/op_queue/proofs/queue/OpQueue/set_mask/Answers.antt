use Rattle.std.proofs.Common.{◌≡◌, ◌==◌, ℕ, Bool, true, false, List, [], ◌∷◌, Option, None, Some, find, position, set, map, refl, sym, ap, subst, ◌∙◌, ⊎_elim}
use Rattle.std.proofs.lemmas.Bool.{cases_Bool, cond-true, cond-false}
use Rattle.op_queue.specs.declared.operation.Operation.{Operation}
use Rattle.op_queue.specs.Queue.{Queue, IsQueue, mask_of, mask_set, masked_as, if_operation}
use Rattle.op_queue.proofs.Keeps.{masked_IsQueue}
use Rattle.op_queue.proofs.Places.{no_operation, place_none, some_none, found_at, the_operation, masks}
use Rattle.op_queue.proofs.queue.OpQueue.set_mask.Goals as goal

-- where no operation has the number, none changes
none_masked : (xs : List Operation) (op : ℕ) (value : Bool) → find (λ o. o.number == op) xs ≡ None → map (masked_as op value) xs ≡ xs
none_masked [] op value none = refl
none_masked (x ∷ xs) op value none = ⊎_elim
    (λ (yes : (x.number == op) ≡ true). absurd (some_none x (sym (cond-true (x.number == op) (Some x) (find (λ o. o.number == op) xs) yes) ∙ none)))
    (λ (no : (x.number == op) ≡ false). rw no (ap (λ ys. x ∷ ys) (none_masked xs op value (sym (cond-false (x.number == op) (Some x) (find (λ o. o.number == op) xs) no) ∙ none))))
    (cases_Bool (x.number == op))

pub returns-in-None-clause-before : goal.returns-in-None-clause-before
returns-in-None-clause-before c = sym (ap (λ (o : Option Operation). if_operation o true (λ (o : Operation). mask_of o.progress))
    (no_operation (record { next = c.self.inside.next; operations = c.self.inside.operations.items }) c.args.self.now c.args.op c.as_slice.result.now c.self.view_is
    c.as_slice.ensures.value c.in-None.ensures))

pub returns-in-None-clause-after : goal.returns-in-None-clause-after
returns-in-None-clause-after c =
    let ops = c.self.inside.operations.items in
    let nowhere : position (λ o. o.number == c.args.op) ops ≡ None = ap (position (λ o. o.number == c.args.op)) (sym c.as_slice.ensures.value) ∙ sym c.in-None.ensures in
    let stay : map (masked_as c.args.op c.args.value) ops ≡ ops = none_masked ops c.args.op c.args.value (place_none (λ o. o.number == c.args.op) ops nowhere) in
    sym c.self.view_is ∙ ap (λ (os : List Operation). (let q : Queue = record { next = c.self.inside.next; operations = os } in q)) (sym stay)
    ∙ ap (λ (q : Queue). mask_set q c.args.op c.args.value) c.self.view_is

pub invariant_of-self : goal.invariant_of-self
invariant_of-self c =
    let list : set c.self.inside.operations.items c.in-Some.index c.set_mask.new.self ≡ map (masked_as c.args.op c.args.value) c.self.inside.operations.items =
    (masks (record { next = c.self.inside.next; operations = c.self.inside.operations.items }) c.args.op c.in-Some.index c.args.value c.index_mut.result.now c.set_mask.new.self
    c.self.invariant (found_at c.args.op c.as_slice.result.now c.self.inside.operations.items c.in-Some.index c.as_slice.ensures.value c.in-Some.ensures)
    c.index_mut.ensures.value c.set_mask.ensures.after) in
    subst (λ (os : List Operation). IsQueue (record { next = c.self.inside.next; operations = os })) (sym list)
    (masked_IsQueue (record { next = c.self.inside.next; operations = c.self.inside.operations.items }) c.args.op c.args.value c.self.invariant)

pub returns-clause-before : goal.returns-clause-before
returns-clause-before c = c.set_mask.ensures.before ∙ sym (ap (λ (o : Option Operation). if_operation o true (λ (o : Operation). mask_of o.progress))
    (the_operation (record { next = c.self.inside.next; operations = c.self.inside.operations.items }) c.args.self.now c.args.op c.in-Some.index c.index_mut.result.now
    c.self.view_is (found_at c.args.op c.as_slice.result.now c.self.inside.operations.items c.in-Some.index c.as_slice.ensures.value c.in-Some.ensures) c.index_mut.ensures.value))

pub returns-clause-after : goal.returns-clause-after
returns-clause-after c =
    let list : set c.self.inside.operations.items c.in-Some.index c.set_mask.new.self ≡ map (masked_as c.args.op c.args.value) c.self.inside.operations.items =
    (masks (record { next = c.self.inside.next; operations = c.self.inside.operations.items }) c.args.op c.in-Some.index c.args.value c.index_mut.result.now c.set_mask.new.self
    c.self.invariant (found_at c.args.op c.as_slice.result.now c.self.inside.operations.items c.in-Some.index c.as_slice.ensures.value c.in-Some.ensures)
    c.index_mut.ensures.value c.set_mask.ensures.after) in
    ap (λ (os : List Operation). (let q : Queue = record { next = c.self.inside.next; operations = os } in q)) list ∙ ap (λ (q : Queue). mask_set q c.args.op c.args.value) c.self.view_is
