-- What the beginning of an operation leaves of the others: the operations of other instances, and all numbers.
use Rattle.std.proofs.Common.{◌≡◌, ◌<◌, ◌==◌, ◌&&◌, ℕ, zero, suc, Bool, true, false, not, cond, List, [], ◌∷◌, None, Some, get_or, map, filter, find, AllPairs, All, refl, ap, ◌∙◌, ⊎_elim, arith}
use Rattle.std.proofs.lemmas.Bool.{cases_Bool, ne_eqb}
use Rattle.op_queue.specs.declared.operation.Operation.{Operation}
use Rattle.op_queue.specs.declared.operation.Progress.TheVariants.{Running}
use Rattle.op_queue.specs.Queue.{Queue, IsQueue, ComesBefore, is_close, is_running, waits_for, first_waiting, as_running, after_begin, without_operations_of}

abbrev pub is_of : ℕ → Operation → Bool
is_of instance o = o.instance == instance

-- an operation that begins has the number and the instance that it had
same_number : (b : Bool) (one other : Operation) → one.number ≡ other.number → (cond b one other).number ≡ other.number
same_number true one other e = e
same_number false one other e = refl

same_instance : (b : Bool) (one other : Operation) → one.instance ≡ other.instance → (cond b one other).instance ≡ other.instance
same_instance true one other e = e
same_instance false one other e = refl

started_number : (n : ℕ) (x : Operation) → (as_running n x).number ≡ x.number
started_number n x = same_number (x.number == n) (record x { progress = Running (is_close x.progress) false true }) x refl

started_instance : (n : ℕ) (x : Operation) → (as_running n x).instance ≡ x.instance
started_instance n x = same_instance (x.number == n) (record x { progress = Running (is_close x.progress) false true }) x refl

-- what begins is no operation of greater number
none_starts : (n : ℕ) (xs : List Operation) → All (λ o. n < o.number) xs → map (as_running n) xs ≡ xs
none_starts n [] above = refl
none_starts n (x ∷ xs) above =
    let here : n < x.number = above zero x (omega arith) in
    let apart : (x.number == n) ≡ false = ne_eqb x.number n (λ same. omega (arith, here, same)) in
    rw apart (ap (λ ys. x ∷ ys) (none_starts n xs (λ k d inside. above (suc k) d (omega arith))))

-- what holds of each operation holds of one that was found
found_above : (p : Operation → Bool) (n : ℕ) (xs : List Operation) (o : Operation) → find p xs ≡ Some o → All (λ x. n < x.number) xs → n < o.number
found_above p n [] o e above = let never : None ≡ Some o = e in cc
found_above p n (x ∷ xs) o e above =
    ⊎_elim
    (λ (yes : p x ≡ true).
    let here : Some x ≡ Some o = rw yes at e in
    let same : x ≡ o = cc in
    let first : n < x.number = above zero x (omega arith) in
    omega (arith, first, ap (λ (y : Operation). y.number) same))
    (λ (no : p x ≡ false).
    let later : find p xs ≡ Some o = rw no at e in
    found_above p n xs o later (λ k d inside. above (suc k) d (omega arith)))
    (cases_Bool (p x))

and_first : (a b : Bool) → (a && b) ≡ true → a ≡ true
and_first true b e = refl
and_first false b e = e

others_stay : (i : ℕ) (xs : List Operation) (o : Operation) → AllPairs ComesBefore xs → find (waits_for i) xs ≡ Some o →
    filter (λ x. not (is_of i x)) (map (as_running o.number) xs) ≡ filter (λ x. not (is_of i x)) xs
others_stay i [] o ordered e = refl
others_stay i (x ∷ xs) o ordered e =
    let above : All (λ y. x.number < y.number) xs = λ k d inside. ordered zero (suc k) d (omega arith) (omega arith) in
    let tail : AllPairs ComesBefore xs = λ k j d lt inside. ordered (suc k) (suc j) d (omega arith) (omega arith) in
    ⊎_elim
    (λ (yes : waits_for i x ≡ true).
    let here : Some x ≡ Some o = rw yes at e in
    let same : x ≡ o = cc in
    let number : x.number ≡ o.number = ap (λ (y : Operation). y.number) same in
    let is_its : is_of i x ≡ true = and_first (is_of i x) (not (is_running x.progress)) yes in
    let begun : is_of i (as_running o.number x) ≡ true = ap (λ n. n == i) (started_instance o.number x) ∙ is_its in
    let rest : map (as_running o.number) xs ≡ xs = none_starts o.number xs (λ k d inside. let past : x.number < (get_or xs k d).number = above k d inside in omega (arith, past, number)) in
    rw (begun, is_its) (ap (filter (λ y. not (is_of i y))) rest))
    (λ (no : waits_for i x ≡ false).
    let later : find (waits_for i) xs ≡ Some o = rw no at e in
    let before : x.number < o.number = found_above (waits_for i) x.number xs o later above in
    let apart : (x.number == o.number) ≡ false = ne_eqb x.number o.number (λ same. omega (arith, before, same)) in
    let rest : filter (λ y. not (is_of i y)) (map (as_running o.number) xs) ≡ filter (λ y. not (is_of i y)) xs = others_stay i xs o tail later in
    rw apart (ap (λ ys. cond (not (is_of i x)) (x ∷ ys) ys) rest))
    (cases_Bool (waits_for i x))

-- where an operation of the instance begins, the operations of the others stay
pub started_of_instance : (q : Queue) (i : ℕ) (o : Operation) → IsQueue q → first_waiting q i ≡ Some o → without_operations_of (after_begin q (Some o)) i ≡ without_operations_of q i
started_of_instance q i o is_queue e =
    ap (λ (os : List Operation). (let r : Queue = record { next = q.next; operations = os } in r)) (others_stay i q.operations o is_queue.ordered e)

same_numbers : (n i : ℕ) (xs : List Operation) → map (λ o. o.number) (filter (is_of i) (map (as_running n) xs)) ≡ map (λ o. o.number) (filter (is_of i) xs)
same_numbers n i [] = refl
same_numbers n i (x ∷ xs) =
    let instance : is_of i (as_running n x) ≡ is_of i x = ap (λ m. m == i) (started_instance n x) in
    let rest : map (λ o. o.number) (filter (is_of i) (map (as_running n) xs)) ≡ map (λ o. o.number) (filter (is_of i) xs) = same_numbers n i xs in
    ⊎_elim
    (λ (yes : is_of i x ≡ true).
    let begun : is_of i (as_running n x) ≡ true = instance ∙ yes in
    rw (begun, yes, started_number n x, rest) refl)
    (λ (no : is_of i x ≡ false).
    let begun : is_of i (as_running n x) ≡ false = instance ∙ no in
    rw (begun, no) rest)
    (cases_Bool (is_of i x))

-- an operation that begins leaves the numbers of each instance's operations
pub started_numbers : (q : Queue) (i : ℕ) (o : Operation) → map (λ o. o.number) (filter (λ o. o.instance == i) (after_begin q (Some o)).operations) ≡ map (λ o. o.number)
    (filter (λ o. o.instance == i) q.operations)
started_numbers q i o = same_numbers o.number i q.operations
