-- A place in a list of operations: what is found there, one entry changed, and one taken out.
use Rattle.std.proofs.Common.{◌≡◌, ◌≢◌, ◌<◌, ◌+◌, ◌==◌, ℕ, zero, suc, Bool, true, false, not, cond, List, [], ◌∷◌, ◌++◌, Option, None, Some, length}
use Rattle.std.proofs.Common.{get_or, set, take, drop, map, filter, find, position, remove, nat_lt, AllPairs, refl, sym, ap, subst, ◌∙◌, ◌⊎◌, ⊎_elim}
use Rattle.std.proofs.Common.{drop-cons, arith, length-set, length-take, length-drop, get_or-set_same, get_or-set_other}
use Rattle.std.specs.List.{position_or_len}
use Rattle.std.proofs.lemmas.Bool.{ne_eqb, cases_Bool, cases_eq, cases_order, ltb-false, eqb-true, cond-true, cond-false}
use Rattle.std.proofs.lemmas.List.{get_or-map, length-map, same_lists, get_or_read, get_or-take, get_or-drop, take-append-drop}
use Rattle.std.proofs.lemmas.List.Quantifiers.{position-Some}
use Rattle.std.proofs.lemmas.List.Elements.{filter-append}
use Rattle.std.proofs.lemmas.List.Sums.{fails_before_first}
use Rattle.app_api.specs.References.{no_references}
use Rattle.op_queue.specs.declared.operation.Operation.{Operation}
use Rattle.op_queue.specs.declared.operation.Progress.TheVariants.{Running}
use Rattle.op_queue.specs.declared.operation.Cancelled.TheVariants.{Dropped, Flagged, Nothing}
use Rattle.op_queue.specs.Queue.{Queue, IsQueue, ComesBefore, operation_of, cancel_of, is_close, is_running, as_running, as_requested, with_request, masked_as, with_mask}

-- ---- places

pub place_inside : {X : Type 0} (p : X → Bool) (xs : List X) (i : ℕ) (x : X) → position p xs ≡ Some i → i < length xs
place_inside p xs i x e = (position-Some p xs i x e).0

pub place_passes : {X : Type 0} (p : X → Bool) (xs : List X) (i : ℕ) (x : X) → position p xs ≡ Some i → x ≡ get_or xs i x → p x ≡ true
place_passes p xs i x e read = ap p read ∙ (position-Some p xs i x e).1

first_found : {X : Type 0} (p : X → Bool) (xs : List X) (i : ℕ) (d : X) → i < length xs → p (get_or xs i d) ≡ true → ((k : ℕ) → k < i → p (get_or xs k d) ≡ false) → find p xs ≡ Some (get_or xs i d)
first_found p [] i d inside here before = absurd (omega arith)
first_found p (x ∷ xs) zero d inside here before = rw here refl
first_found p (x ∷ xs) (suc i) d inside here before =
    let fails : p x ≡ false = before zero (omega arith) in
    rw fails (first_found p xs i d (omega arith) here (λ k lt. before (suc k) (omega arith)))

pub place_found : {X : Type 0} (p : X → Bool) (xs : List X) (i : ℕ) (x : X) → position p xs ≡ Some i → x ≡ get_or xs i x → find p xs ≡ Some x
place_found p xs i x e read = let at = position-Some p xs i x e in first_found p xs i x at.0 at.1 at.2 ∙ ap Some (sym read)

none_found : {X : Type 0} (p : X → Bool) (xs : List X) → ((k : ℕ) (d : X) → k < length xs → p (get_or xs k d) ≡ false) → find p xs ≡ None
none_found p [] fails = refl
none_found p (x ∷ xs) fails =
    let here : p x ≡ false = fails zero x (omega arith) in
    rw here (none_found p xs (λ k d lt. fails (suc k) d (omega arith)))

pub some_none : {X : Type 0} (x : X) → Some x ≡ None → ⊥
some_none x e = cc

pub place_none : {X : Type 0} (p : X → Bool) (xs : List X) → position p xs ≡ None → find p xs ≡ None
place_none p xs e =
    let at : ℕ = position_or_len p xs in
    none_found p xs (λ k d lt. fails_before_first p xs k d
    (⊎_elim
    (λ (yes : nat_lt at (length xs) ≡ true). let h : Some at ≡ None = sym (cond-true (nat_lt at (length xs)) (Some at) None yes) ∙ e in absurd (some_none at h))
    (λ (no : nat_lt at (length xs) ≡ false). omega (arith, ltb-false at (length xs) no))
    (cases_Bool (nat_lt at (length xs)))))

-- ---- one entry, where numbers ascend

-- no other place has the number of this one
pub only_here : (xs : List Operation) (i k : ℕ) (d : Operation) → AllPairs ComesBefore xs → i < length xs → k < length xs → k ≢ i → (get_or xs k d).number ≢ (get_or xs i d).number
only_here xs i k d ordered here there other same =
    ⊎_elim (λ (e : k ≡ i). other e)
    (λ (apart : (k < i) ⊎ (i < k)). ⊎_elim
    (λ (before : k < i). omega (arith, ordered k i d before here))
    (λ (after : i < k). omega (arith, ordered i k d after there))
    apart)
    (cases_order k i)

-- a change of the operation of one number is a change at its place
pub one_changed : (f : Operation → Operation) (n : ℕ) → ((o : Operation) → (o.number == n) ≡ false → f o ≡ o) → (xs : List Operation) (i : ℕ) (x y : Operation) →
    AllPairs ComesBefore xs → i < length xs → x ≡ get_or xs i x → x.number ≡ n → y ≡ f x → set xs i y ≡ map f xs
one_changed f n others xs i x y ordered inside read number changed =
    same_lists (set xs i y) (map f xs) (omega (arith, length-set xs i y, length-map xs f))
    (λ k d lt.
    let within : k < length xs = omega (arith, length-set xs i y) in
    let right : get_or (map f xs) k d ≡ f (get_or xs k d) = get_or-map f xs k d d within in
    let at : x ≡ get_or xs i d = get_or_read xs i x inside read d in
    ⊎_elim
    (λ (here : k ≡ i). subst (λ (m : ℕ). get_or (set xs i y) m d ≡ get_or (map f xs) m d) (sym here)
    (get_or-set_same xs i y d inside ∙ changed ∙ ap f at ∙ sym (get_or-map f xs i d d inside)))
    (λ (other : k ≡ i → ⊥).
    let differs : ((get_or xs k d).number == n) ≡ false = ne_eqb _ _ (λ e. only_here xs i k d ordered inside within other (e ∙ sym number ∙ ap (λ (o : Operation). o.number) at)) in
    get_or-set_other xs i k y d other ∙ sym (others (get_or xs k d) differs) ∙ sym right)
    (cases_eq k i))

all_stay : {X : Type 0} (p : X → Bool) (xs : List X) → ((k : ℕ) (d : X) → k < length xs → p (get_or xs k d) ≡ true) → filter p xs ≡ xs
all_stay p [] passes = refl
all_stay p (x ∷ xs) passes =
    let here : p x ≡ true = passes zero x (omega arith) in
    rw here (ap (λ ys. x ∷ ys) (all_stay p xs (λ k d lt. passes (suc k) d (omega arith))))

-- the list without a place has what a filter leaves that passes all others
pub one_removed : {X : Type 0} (p : X → Bool) (xs : List X) (i : ℕ) (d : X) → i < length xs → p (get_or xs i d) ≡ false →
    ((k : ℕ) (e : X) → k < length xs → k ≢ i → p (get_or xs k e) ≡ true) → remove xs i ≡ filter p xs
one_removed p xs i d inside here others =
    let x : _ = get_or xs i d in
    let front : filter p (take i xs) ≡ take i xs = all_stay p (take i xs) (λ k e lt. let near : k < i = omega (arith, length-take i xs) in let far : k ≢ i = omega arith in
    ap p (get_or-take i xs k e near) ∙ others k e (omega arith) far) in
    let back : filter p (drop (suc i) xs) ≡ drop (suc i) xs = all_stay p (drop (suc i) xs) (λ k e lt. let past : suc i + k < length xs = omega (arith, length-drop (suc i) xs) in
    let far : suc i + k ≢ i = omega arith in ap p (get_or-drop (suc i) xs k e) ∙ others (suc i + k) e past far) in
    let whole : xs ≡ take i xs ++ (x ∷ drop (suc i) xs) = sym (take-append-drop i xs) ∙ ap (λ ys. take i xs ++ ys) (drop-cons xs i d inside) in
    let middle : filter p (x ∷ drop (suc i) xs) ≡ drop (suc i) xs = rw here back in
    let split : filter p (take i xs ++ (x ∷ drop (suc i) xs)) ≡ filter p (take i xs) ++ filter p (x ∷ drop (suc i) xs) = filter-append p (take i xs) (x ∷ drop (suc i) xs) in
    sym (ap (filter p) whole ∙ split ∙ ap (λ ys. ys ++ filter p (x ∷ drop (suc i) xs)) front ∙ ap (λ ys. take i xs ++ ys) middle)

-- any operation, for a place past the end
any_operation : Operation
any_operation = record { number = 0; client = 0; session = 0; instance = 0; references = no_references; progress = Running false false true }

-- the operation of one number, taken out
pub operation_removed : (xs : List Operation) (i n : ℕ) → AllPairs ComesBefore xs → position (λ o. o.number == n) xs ≡ Some i → remove xs i ≡ filter (λ o. not (o.number == n)) xs
operation_removed xs i n ordered at =
    let here = position-Some (λ (o : Operation). o.number == n) xs i any_operation at in
    one_removed (λ (o : Operation). not (o.number == n)) xs i any_operation here.0 (ap not here.1)
    (λ k e within other. ap not (ne_eqb _ _ (λ same.
    let there = position-Some (λ (o : Operation). o.number == n) xs i e at in
    only_here xs i k e ordered here.0 within other (same ∙ sym (eqb-true _ _ there.1)))))

-- a change that is for one number leaves the others
pub other_stays : (f : Operation → Operation) (n : ℕ) (o : Operation) → (o.number == n) ≡ false → cond (o.number == n) (f o) o ≡ o
other_stays f n o e = cond-false (o.number == n) (f o) o e

-- ---- the changes of the calls

pub started_here : (op : ℕ) (xs : List Operation) (i : ℕ) (x y : Operation) → AllPairs ComesBefore xs → i < length xs → x ≡ get_or xs i x → x.number ≡ op → y ≡ as_running op x →
    set xs i y ≡ map (as_running op) xs
started_here op = one_changed (as_running op) op (λ o e. other_stays (λ (o : Operation). record o { progress = Running (is_close o.progress) false true }) op o e)

pub requested_here : (op : ℕ) (xs : List Operation) (i : ℕ) (x y : Operation) → AllPairs ComesBefore xs → i < length xs → x ≡ get_or xs i x → x.number ≡ op → y ≡ as_requested op x →
    set xs i y ≡ map (as_requested op) xs
requested_here op = one_changed (as_requested op) op (λ o e. other_stays (λ (o : Operation). record o { progress = with_request o.progress }) op o e)

pub masked_here : (op : ℕ) (value : Bool) (xs : List Operation) (i : ℕ) (x y : Operation) → AllPairs ComesBefore xs → i < length xs → x ≡ get_or xs i x → x.number ≡ op →
    y ≡ masked_as op value x → set xs i y ≡ map (masked_as op value) xs
masked_here op value = one_changed (masked_as op value) op (λ o e. other_stays (λ (o : Operation). record o { progress = with_mask value o.progress }) op o e)

-- ---- what the scan for a number tells

pub no_operation : (q now : Queue) (op : ℕ) (xs : List Operation) → q ≡ now → xs ≡ q.operations → None ≡ position (λ o. o.number == op) xs → operation_of now op ≡ None
no_operation q now op xs same list at =
    ap (λ (w : Queue). operation_of w op) (sym same) ∙ ap (find (λ (o : Operation). o.number == op)) (sym list) ∙ place_none (λ (o : Operation). o.number == op) xs (sym at)

pub found_at : (op : ℕ) (xs ys : List Operation) (i : ℕ) → xs ≡ ys → Some i ≡ position (λ o. o.number == op) xs → position (λ o. o.number == op) ys ≡ Some i
found_at op xs ys i list at = ap (position (λ (o : Operation). o.number == op)) (sym list) ∙ sym at

pub the_operation : (q now : Queue) (op i : ℕ) (x : Operation) → q ≡ now → position (λ o. o.number == op) q.operations ≡ Some i → x ≡ get_or q.operations i x → operation_of now op ≡ Some x
the_operation q now op i x same at read = ap (λ (w : Queue). operation_of w op) (sym same) ∙ place_found (λ (o : Operation). o.number == op) q.operations i x at read

its_number : (op : ℕ) (xs : List Operation) (i : ℕ) (x : Operation) → position (λ o. o.number == op) xs ≡ Some i → x ≡ get_or xs i x → x.number ≡ op
its_number op xs i x at read = eqb-true _ _ (place_passes (λ (o : Operation). o.number == op) xs i x at read)

pub masks : (q : Queue) (op i : ℕ) (value : Bool) (x y : Operation) → IsQueue q → position (λ o. o.number == op) q.operations ≡ Some i → x ≡ get_or q.operations i x →
    y ≡ masked_as x.number value x → set q.operations i y ≡ map (masked_as op value) q.operations
masks q op i value x y old at read changed =
    let number : x.number ≡ op = its_number op q.operations i x at read in
    masked_here op value q.operations i x y old.ordered (place_inside (λ (o : Operation). o.number == op) q.operations i x at) read number (changed ∙ ap (λ n. masked_as n value x) number)

pub requests : (q : Queue) (op i : ℕ) (x y : Operation) → IsQueue q → position (λ o. o.number == op) q.operations ≡ Some i → x ≡ get_or q.operations i x →
    y ≡ as_requested x.number x → set q.operations i y ≡ map (as_requested op) q.operations
requests q op i x y old at read changed =
    let number : x.number ≡ op = its_number op q.operations i x at read in
    requested_here op q.operations i x y old.ordered (place_inside (λ (o : Operation). o.number == op) q.operations i x at) read number (changed ∙ ap (λ n. as_requested n x) number)

-- ---- what a request for cancellation does

pub cancel_close : (o : Option Operation) (x : Operation) → o ≡ Some x → is_close x.progress ≡ true → Nothing ≡ cancel_of o
cancel_close o x e close = sym (ap cancel_of e ∙ cond-true (is_close x.progress) Nothing (cond (is_running x.progress) Flagged Dropped) close)

pub cancel_open : (o : Option Operation) (x y : Operation) (b : Bool) → o ≡ Some x → is_close x.progress ≡ false → o ≡ Some y → is_running y.progress ≡ b → cond b Flagged Dropped ≡ cancel_of o
cancel_open o x y b e close also runs =
    let same : x ≡ y = (let both : Some x ≡ Some y = sym e ∙ also in cc) in
    let open' : cancel_of (Some x) ≡ cond (is_running x.progress) Flagged Dropped = cond-false (is_close x.progress) Nothing (cond (is_running x.progress) Flagged Dropped) close in
    sym (ap cancel_of e ∙ open' ∙ ap (λ (o : Operation). cond (is_running o.progress) Flagged Dropped) same ∙ ap (λ v. cond v Flagged Dropped) runs)
