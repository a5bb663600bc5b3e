-- An operation that runs is there, and runs on through what happens to others; one that begins runs.
use Rattle.std.proofs.Common.{◌≡◌, ◌≢◌, ◌==◌, ℕ, Bool, true, false, not, cond, List, [], ◌∷◌, ◌++◌, Option, None, Some, is_some, find, filter, map, refl, sym, ap, ◌∙◌, ⊎_elim}
use Rattle.std.proofs.lemmas.Bool.{eqb-true, eq-eqb, ne_eqb, cases_Bool, both_ways}
use Rattle.app_api.specs.declared.call.Call.{Call}
use Rattle.app_api.specs.Calls.{call_references}
use Rattle.op_queue.specs.declared.operation.Operation.{Operation}
use Rattle.op_queue.specs.declared.operation.Progress.{Progress}
use Rattle.op_queue.specs.declared.operation.Progress.TheVariants.{Waiting, Running}
use Rattle.op_queue.specs.Queue.{Queue, operation_of, runs, if_operation, is_running, is_close, with_operation, without, waits_for}
use Rattle.op_queue.specs.Queue.{first_waiting, as_running, after_begin, as_requested, with_request, masked_as, with_mask, mask_set}

abbrev pub runs_in : List Operation → ℕ → Bool
runs_in xs op = if_operation (find (λ o. o.number == op) xs) false (λ o. is_running o.progress)

pub runs_is_there : (q : Queue) (op : ℕ) → runs q op ≡ true → is_some (operation_of q op) ≡ true
runs_is_there q op e =
    let step : (o : Option Operation) → if_operation o false (λ (x : Operation). is_running x.progress) ≡ true → is_some o ≡ true =
    λ o. elim o as (λ v. if_operation v false (λ (x : Operation). is_running x.progress) ≡ true → is_some v ≡ true) [ None ↦ λ h. h | Some x ↦ λ h. refl ] in
    step (operation_of q op) e

-- a change that leaves the numbers and what runs
runs_map : (f : Operation → Operation) (op : ℕ) (xs : List Operation) → ((o : Operation) → (f o).number ≡ o.number) →
    ((o : Operation) → is_running o.progress ≡ true → is_running (f o).progress ≡ true) → runs_in xs op ≡ true → runs_in (map f xs) op ≡ true
runs_map f op [] number on h = h
runs_map f op (x ∷ xs) number on h =
    let same : ((f x).number == op) ≡ (x.number == op) = ap (λ n. n == op) (number x) in
    ⊎_elim
    (λ (yes : (x.number == op) ≡ true). let before : is_running x.progress ≡ true = rw yes at h in rw (same ∙ yes) (on x before))
    (λ (no : (x.number == op) ≡ false). let before : runs_in xs op ≡ true = rw no at h in rw (same ∙ no) (runs_map f op xs number on before))
    (cases_Bool (x.number == op))

runs_push : (op : ℕ) (xs : List Operation) (y : Operation) → runs_in xs op ≡ true → runs_in (xs ++ y ∷ []) op ≡ true
runs_push op [] y h = absurd (both_ways _ refl h)
runs_push op (x ∷ xs) y h =
    ⊎_elim
    (λ (yes : (x.number == op) ≡ true). let before : is_running x.progress ≡ true = rw yes at h in rw yes before)
    (λ (no : (x.number == op) ≡ false). let before : runs_in xs op ≡ true = rw no at h in rw no (runs_push op xs y before))
    (cases_Bool (x.number == op))

pub runs-submitted : (q : Queue) (client instance session op : ℕ) (call : Call) → runs q op ≡ true → runs (with_operation q client instance session call) op ≡ true
runs-submitted q client instance session op call h =
    let o : Operation = record { number = q.next; client = client; session = session; instance = instance; references = call_references call; progress = Waiting call } in
    runs_push op q.operations o h

runs_filter : (p : Operation → Bool) (op : ℕ) (xs : List Operation) → ((o : Operation) → o.number ≡ op → p o ≡ true) → runs_in xs op ≡ true → runs_in (filter p xs) op ≡ true
runs_filter p op [] keeps h = h
runs_filter p op (x ∷ xs) keeps h =
    ⊎_elim
    (λ (yes : (x.number == op) ≡ true).
    let before : is_running x.progress ≡ true = rw yes at h in
    let stays : p x ≡ true = keeps x (eqb-true _ _ yes) in
    rw (stays, yes) before)
    (λ (no : (x.number == op) ≡ false).
    let before : runs_in xs op ≡ true = rw no at h in
    let after : runs_in (filter p xs) op ≡ true = runs_filter p op xs keeps before in
    ⊎_elim (λ (stays : p x ≡ true). rw (stays, no) after) (λ (goes : p x ≡ false). rw goes after) (cases_Bool (p x)))
    (cases_Bool (x.number == op))

pub runs-without : (q : Queue) (op other : ℕ) → op ≢ other → runs q op ≡ true → runs (without q other) op ≡ true
runs-without q op other apart h = runs_filter (λ o. not (o.number == other)) op q.operations (λ o e. ap not (ne_eqb o.number other (λ same. apart (sym e ∙ same)))) h

-- ---- the changes of one operation

same_number : (b : Bool) (one other : Operation) → one.number ≡ other.number → (cond b one other).number ≡ other.number
same_number true one other e = e
same_number false one other e = refl

runs_on : (b : Bool) (one other : Operation) → is_running one.progress ≡ true → is_running other.progress ≡ true → is_running (cond b one other).progress ≡ true
runs_on true one other h k = h
runs_on false one other h k = k

request_runs : (progress : Progress) → is_running (with_request progress) ≡ is_running progress
request_runs (Waiting call) = refl
request_runs (Running close cancelled masked) = refl

mask_runs : (value : Bool) (progress : Progress) → is_running (with_mask value progress) ≡ is_running progress
mask_runs value (Waiting call) = refl
mask_runs value (Running close cancelled masked) = refl

pub runs-started : (q : Queue) (op other : ℕ) → runs q op ≡ true → runs (record q { operations = map (as_running other) q.operations }) op ≡ true
runs-started q op other h =
    runs_map (as_running other) op q.operations
    (λ o. same_number (o.number == other) (record o { progress = Running (is_close o.progress) false true }) o refl)
    (λ o k. runs_on (o.number == other) (record o { progress = Running (is_close o.progress) false true }) o refl k) h

pub runs-requested : (q : Queue) (op other : ℕ) → runs q op ≡ true → runs (record q { operations = map (as_requested other) q.operations }) op ≡ true
runs-requested q op other h =
    runs_map (as_requested other) op q.operations
    (λ o. same_number (o.number == other) (record o { progress = with_request o.progress }) o refl)
    (λ o k. runs_on (o.number == other) (record o { progress = with_request o.progress }) o (request_runs o.progress ∙ k) k) h

pub runs-mask_set : (q : Queue) (op other : ℕ) (value : Bool) → runs q op ≡ true → runs (mask_set q other value) op ≡ true
runs-mask_set q op other value h =
    runs_map (masked_as other value) op q.operations
    (λ o. same_number (o.number == other) (record o { progress = with_mask value o.progress }) o refl)
    (λ o k. runs_on (o.number == other) (record o { progress = with_mask value o.progress }) o (mask_runs value o.progress ∙ k) k) h

-- ---- what begins runs

started_runs : (n : ℕ) (p : Operation → Bool) (xs : List Operation) (o : Operation) → find p xs ≡ Some o → o.number ≡ n → runs_in (map (as_running n) xs) n ≡ true
started_runs n p [] o e number = let never : None ≡ Some o = e in cc
started_runs n p (x ∷ xs) o e number =
    let same : (b : Bool) → (cond b (record x { progress = Running (is_close x.progress) false true }) x).number ≡ x.number =
    λ b. same_number b (record x { progress = Running (is_close x.progress) false true }) x refl in
    ⊎_elim
    (λ (yes : (x.number == n) ≡ true). rw (yes, yes) refl)
    (λ (no : (x.number == n) ≡ false).
    let later : find p xs ≡ Some o = ⊎_elim
    (λ (first : p x ≡ true). let here : Some x ≡ Some o = rw first at e in let is : x ≡ o = cc in absurd (both_ways _ no (eq-eqb _ _ (ap (λ (y : Operation). y.number) is ∙ number))))
    (λ (next : p x ≡ false). let there : find p xs ≡ Some o = rw next at e in there)
    (cases_Bool (p x)) in
    rw (no, no) (started_runs n p xs o later number))
    (cases_Bool (x.number == n))

pub begun_runs : (q : Queue) (instance : ℕ) (o : Operation) → first_waiting q instance ≡ Some o → runs (after_begin q (Some o)) o.number ≡ true
begun_runs q instance o e = started_runs o.number (waits_for instance) q.operations o e refl
