-- Each change of a queue keeps what a queue keeps.
use Rattle.std.proofs.Common.{◌≡◌, ◌<◌, ◌≤◌, ◌+◌, ◌==◌, ◌&&◌, ℕ, Bool, true, false, not, cond, List, [], ◌∷◌, length, get_or, map, filter, count_by, refl, ap, ◌∙◌, arith}
use Rattle.std.proofs.lemmas.Bool.{leb-false}
use Rattle.std.proofs.lemmas.List.{get_or-map, length-map}
use Rattle.std.proofs.lemmas.List.Elements.{All-nil, All-push, All-map, All-filter, All-weaker}
use Rattle.std.proofs.lemmas.List.Quantifiers.{all_pairs_push}
use Rattle.std.proofs.lemmas.List.Kept.{AllPairs-filter}
use Rattle.std.proofs.lemmas.List.Filters.{sum_by-filter_both}
use Rattle.std.proofs.lemmas.List.Sums.{sum_by_push, sum_by-cons}
use Rattle.tee_base.specs.declared.limits.TheConstants.{MAX_SESSIONS, MAX_OPERATIONS}
use Rattle.app_api.specs.declared.call.Call.{Call}
use Rattle.app_api.specs.Calls.{call_references}
use Rattle.op_queue.specs.declared.operation.Operation.{Operation}
use Rattle.op_queue.specs.declared.operation.Progress.{Progress}
use Rattle.op_queue.specs.declared.operation.Progress.TheVariants.{Waiting, Running}
use Rattle.op_queue.specs.Queue.{Queue, IsQueue, ComesBefore, is_close, is_close_call, is_full, with_operation}
use Rattle.op_queue.specs.Queue.{with_number_used, without, without_operations, as_running, as_requested, with_request, masked_as, with_mask}

abbrev pub is_other : Operation → Bool
is_other o = not (is_close o.progress)

abbrev pub closes : Operation → Bool
closes o = is_close o.progress

-- a change that leaves what is counted
count_same : (p : Operation → Bool) (f : Operation → Operation) (xs : List Operation) → ((o : Operation) → p (f o) ≡ p o) → count_by p (map f xs) ≡ count_by p xs
count_same p f [] same = refl
count_same p f (x ∷ xs) same =
    let weight : Bool → ℕ = λ b. cond b 1 0 in
    let head : weight (p (f x)) ≡ weight (p x) = ap weight (same x) in
    sum_by-cons (λ (o : Operation). cond (p o) 1 0) (f x) (map f xs) ∙ omega (arith, head, count_same p f xs same, sum_by-cons (λ (o : Operation). cond (p o) 1 0) x xs)

-- each operation is a close, or another
all_counted : (xs : List Operation) → count_by is_other xs + count_by closes xs ≡ length xs
all_counted [] = refl
all_counted (x ∷ xs) =
    let one : (b : Bool) → cond (not b) 1 0 + cond b 1 0 ≡ 1 = λ b. elim b as (λ v. cond (not v) 1 0 + cond v 1 0 ≡ 1) [ true ↦ refl | false ↦ refl ] in
    omega (arith, all_counted xs, one (closes x), sum_by-cons (λ (o : Operation). cond (is_other o) 1 0) x xs, sum_by-cons (λ (o : Operation). cond (closes o) 1 0) x xs)

-- no queue has more operations than both counts allow
pub all_few : (q : Queue) → IsQueue q → length q.operations ≤ MAX_OPERATIONS + MAX_SESSIONS
all_few q old = omega (arith, old.few, old.closes, all_counted q.operations)

-- a change that leaves each number, and whether it is a close
pub map_IsQueue : (q : Queue) (f : Operation → Operation) → ((o : Operation) → (f o).number ≡ o.number) → ((o : Operation) → is_close (f o).progress ≡ is_close o.progress) →
    IsQueue q → IsQueue (record q { operations = map f q.operations })
map_IsQueue q f number close old =
    let place : (k : ℕ) (d : Operation) → k < length q.operations → (get_or (map f q.operations) k d).number ≡ (get_or q.operations k d).number =
    λ k d inside. ap (λ (o : Operation). o.number) (get_or-map f q.operations k d d inside) ∙ number (get_or q.operations k d) in
    record {
      first = old.first;
      few = omega (arith, count_same is_other f q.operations (λ o. ap not (close o)), old.few);
      closes = omega (arith, count_same closes f q.operations close, old.closes);
      numbers = All-map (λ (o : Operation). (1 ≤ o.number) × (o.number < q.next)) f q.operations (All-weaker (λ (o : Operation). (1 ≤ o.number) × (o.number < q.next))
          (λ (o : Operation). (1 ≤ (f o).number) × ((f o).number < q.next)) (λ o h. (omega (arith, number o, h.0), omega (arith, number o, h.1))) q.operations old.numbers);
      ordered = λ i j d lt inside. let within : j < length q.operations = omega (arith, length-map q.operations f) in
          omega (arith, old.ordered i j d lt within, place i d (omega arith), place j d within);
    }

pub filter_IsQueue : (q : Queue) (p : Operation → Bool) → IsQueue q → IsQueue (record q { operations = filter p q.operations })
filter_IsQueue q p old = record {
  first = old.first;
  few = omega (arith, old.few, sum_by-filter_both p (λ (o : Operation). not (p o)) (λ o. refl) (λ (o : Operation). cond (is_other o) 1 0) q.operations);
  closes = omega (arith, old.closes, sum_by-filter_both p (λ (o : Operation). not (p o)) (λ o. refl) (λ (o : Operation). cond (closes o) 1 0) q.operations);
  numbers = All-filter p (λ (o : Operation). (1 ≤ o.number) × (o.number < q.next)) q.operations old.numbers;
  ordered = AllPairs-filter ComesBefore p q.operations old.ordered;
}

pub skipped_IsQueue : (q : Queue) → IsQueue q → IsQueue (with_number_used q)
skipped_IsQueue q old = record {
  first = omega (arith, old.first);
  few = old.few;
  closes = old.closes;
  numbers = All-weaker (λ (o : Operation). (1 ≤ o.number) × (o.number < q.next)) (λ (o : Operation). (1 ≤ o.number) × (o.number < q.next + 1)) (λ o h. (h.0, omega (arith, h.1)))
      q.operations old.numbers;
  ordered = old.ordered;
}

room : (q : Queue) (close : Bool) → (is_full q && not close) ≡ false → IsQueue q → count_by is_other q.operations + cond (not close) 1 0 ≤ MAX_OPERATIONS
room q true free old = omega (arith, old.few)
room q false free old =
    let full : (b : Bool) → (b && true) ≡ false → b ≡ false = λ b. elim b as (λ v. (v && true) ≡ false → v ≡ false) [ true ↦ λ e. e | false ↦ λ e. refl ] in
    omega (arith, leb-false _ _ (full (is_full q) free))

room_for_close : (q : Queue) (close : Bool) → (close ≡ true → count_by closes q.operations < MAX_SESSIONS) → IsQueue q → count_by closes q.operations + cond close 1 0 ≤ MAX_SESSIONS
room_for_close q true free old = omega (arith, free refl)
room_for_close q false free old = omega (arith, old.closes)

pub submitted_IsQueue : (q : Queue) (client instance session : ℕ) (call : Call) → (is_full q && not (is_close_call call)) ≡ false →
    (is_close_call call ≡ true → count_by closes q.operations < MAX_SESSIONS) → IsQueue q → IsQueue (with_operation q client instance session call)
submitted_IsQueue q client instance session call free few_closes old =
    let o : Operation = record { number = q.next; client = client; session = session; instance = instance; references = call_references call; progress = Waiting call } in
    record {
      first = omega (arith, old.first);
      few = omega (arith, sum_by_push (λ (o : Operation). cond (is_other o) 1 0) q.operations o, room q (is_close_call call) free old);
      closes = omega (arith, sum_by_push (λ (o : Operation). cond (closes o) 1 0) q.operations o, room_for_close q (is_close_call call) few_closes old);
      numbers = All-push (λ (o : Operation). (1 ≤ o.number) × (o.number < q.next + 1)) q.operations o
          (All-weaker (λ (o : Operation). (1 ≤ o.number) × (o.number < q.next)) (λ (o : Operation). (1 ≤ o.number) × (o.number < q.next + 1)) (λ o h. (h.0, omega (arith, h.1)))
          q.operations old.numbers) (old.first, omega arith);
      ordered = all_pairs_push ComesBefore q.operations o old.ordered (λ k d inside. (old.numbers k d inside).1);
    }

-- ---- the changes of one operation

same_number : (b : Bool) (one other : Operation) → one.number ≡ other.number → (cond b one other).number ≡ other.number
same_number true one other e = e
same_number false one other e = refl

same_close : (b : Bool) (one other : Operation) → is_close one.progress ≡ is_close other.progress → is_close (cond b one other).progress ≡ is_close other.progress
same_close true one other e = e
same_close false one other e = refl

request_close : (progress : Progress) → is_close (with_request progress) ≡ is_close progress
request_close (Waiting call) = refl
request_close (Running close cancelled masked) = refl

mask_close : (value : Bool) (progress : Progress) → is_close (with_mask value progress) ≡ is_close progress
mask_close value (Waiting call) = refl
mask_close value (Running close cancelled masked) = refl

pub started_IsQueue : (q : Queue) (op : ℕ) → IsQueue q → IsQueue (record q { operations = map (as_running op) q.operations })
started_IsQueue q op old =
    map_IsQueue q (as_running op)
    (λ o. same_number (o.number == op) (record o { progress = Running (is_close o.progress) false true }) o refl)
    (λ o. same_close (o.number == op) (record o { progress = Running (is_close o.progress) false true }) o refl)
    old

pub requested_IsQueue : (q : Queue) (op : ℕ) → IsQueue q → IsQueue (record q { operations = map (as_requested op) q.operations })
requested_IsQueue q op old =
    map_IsQueue q (as_requested op)
    (λ o. same_number (o.number == op) (record o { progress = with_request o.progress }) o refl)
    (λ o. same_close (o.number == op) (record o { progress = with_request o.progress }) o (request_close o.progress))
    old

pub masked_IsQueue : (q : Queue) (op : ℕ) (value : Bool) → IsQueue q → IsQueue (record q { operations = map (masked_as op value) q.operations })
masked_IsQueue q op value old =
    map_IsQueue q (masked_as op value)
    (λ o. same_number (o.number == op) (record o { progress = with_mask value o.progress }) o refl)
    (λ o. same_close (o.number == op) (record o { progress = with_mask value o.progress }) o (mask_close value o.progress))
    old

pub without_IsQueue : (q : Queue) (op : ℕ) → IsQueue q → IsQueue (without q op)
without_IsQueue q op old = filter_IsQueue q (λ o. not (o.number == op)) old

pub forgotten_IsQueue : (q : Queue) → IsQueue q → IsQueue (without_operations q)
forgotten_IsQueue q old = record {
  first = old.first;
  few = omega arith;
  closes = omega arith;
  numbers = All-nil (λ (o : Operation). (1 ≤ o.number) × (o.number < q.next));
  ordered = λ i j d lt inside. absurd (omega arith);
}
