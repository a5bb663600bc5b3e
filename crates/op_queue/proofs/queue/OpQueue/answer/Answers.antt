use Rattle.std.proofs.lemmas.Bool.{cases_Bool, cond-true, cond-false}
use Rattle.std.proofs.Common.{⊎_elim, position, [], ◌∷◌, find, ◌≡◌, ◌==◌, not, ℕ, true, false, List, None, Some, filter, refl, sym, ap, subst, ◌∙◌}
use Rattle.op_queue.specs.declared.operation.Operation.{Operation}
use Rattle.op_queue.specs.Queue.{Queue, IsQueue, without}
use Rattle.op_queue.proofs.Keeps.{without_IsQueue}
use Rattle.op_queue.proofs.Places.{place_none, some_none, found_at, operation_removed}
use Rattle.op_queue.proofs.queue.OpQueue.answer.Goals as goal

-- where no operation has the number, none is left out
all_stay : (xs : List Operation) (op : ℕ) → find (λ o. o.number == op) xs ≡ None → filter (λ o. not (o.number == op)) xs ≡ xs
all_stay [] op none = refl
all_stay (x ∷ xs) op none = ⊎_elim
    (λ (yes : (x.number == op) ≡ true). absurd (some_none x (sym (cond-true (x.number == op) (Some x) (find (λ o. o.number == op) xs) yes) ∙ none)))
    (λ (no : (x.number == op) ≡ false). rw no (ap (λ ys. x ∷ ys) (all_stay xs op (sym (cond-false (x.number == op) (Some x) (find (λ o. o.number == op) xs) no) ∙ none))))
    (cases_Bool (x.number == op))

pub returns-in-None : goal.returns-in-None
returns-in-None c =
    let ops = c.self.inside.operations.items in
    let nowhere : position (λ o. o.number == c.args.op) ops ≡ None = ap (position (λ o. o.number == c.args.op)) (sym c.as_slice.ensures.value) ∙ sym c.in-None.ensures in
    let stay : filter (λ o. not (o.number == c.args.op)) ops ≡ ops = all_stay ops c.args.op (place_none (λ o. o.number == c.args.op) ops nowhere) in
    sym c.self.view_is ∙ ap (λ (os : List Operation). (let q : Queue = record { next = c.self.inside.next; operations = os } in q)) (sym stay) ∙ ap (λ (q : Queue). without q c.args.op) c.self.view_is

pub invariant_of-self : goal.invariant_of-self
invariant_of-self c =
    let list : c.take_out.new.operations.items ≡ filter (λ o. not (o.number == c.args.op)) c.self.inside.operations.items =
    (c.take_out.ensures ∙ operation_removed c.self.inside.operations.items c.in-Some.index c.args.op c.self.invariant.ordered
    (found_at c.args.op c.as_slice.result.now c.self.inside.operations.items c.in-Some.index c.as_slice.ensures.value c.in-Some.ensures)) in
    subst (λ (os : List Operation). IsQueue (record { next = c.self.inside.next; operations = os })) (sym list)
    (without_IsQueue (record { next = c.self.inside.next; operations = c.self.inside.operations.items }) c.args.op c.self.invariant)

pub returns : goal.returns
returns c =
    let list : c.take_out.new.operations.items ≡ filter (λ o. not (o.number == c.args.op)) c.self.inside.operations.items =
    (c.take_out.ensures ∙ operation_removed c.self.inside.operations.items c.in-Some.index c.args.op c.self.invariant.ordered
    (found_at c.args.op c.as_slice.result.now c.self.inside.operations.items c.in-Some.index c.as_slice.ensures.value c.in-Some.ensures)) in
    ap (λ (os : List Operation). (let q : Queue = record { next = c.self.inside.next; operations = os } in q)) list ∙ ap (λ (q : Queue). without q c.args.op) c.self.view_is
