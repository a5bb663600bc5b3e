-- Lists of instances: the first of a number, and another in its place.
use Rattle.std.proofs.Common.{ℕ, ◌≡◌, ◌<◌, ◌+◌, ◌==◌, ◌||◌, nat_eq, suc, zero, true, false, not, cond, List, [], ◌∷◌, None, Some}
use Rattle.std.proofs.Common.{find, filter, map, length, get_or, set, refl, sym, ap, ◌∙◌, ⊎_elim, eq-eqb, arith}
use Rattle.std.specs.List.{list_any}
use Rattle.std.proofs.lemmas.Bool.{cases_Bool, cond-true, cond-false, cond_both, eqb-true, ne_eqb, both_ways}
use Rattle.alone.specs.declared.active_entry.Instance.{Instance}
use Rattle.alone.specs.Machine.{is_number, put_instance}
use Rattle.alone.proofs.Totals.{total, found_here, found_later, nothing_found}

pub found_at : {A : Type 0} (i : ℕ) (xs : List (Instance A)) (place : ℕ) (d : Instance A) → place < length xs
    → ((k : ℕ) → k < place → is_number i (get_or xs k d) ≡ false) → is_number i (get_or xs place d) ≡ true → find (is_number i) xs ≡ Some (get_or xs place d)
found_at i [] place d within before here = absurd (omega arith)
found_at i (x ∷ xs) zero d within before here = ap (λ b. cond b (Some x) (find (is_number i) xs)) here
found_at i (x ∷ xs) (suc place) d within before here =
    ap (λ b. cond b (Some x) (find (is_number i) xs)) (before 0 (omega arith))
    ∙ found_at i xs place d (omega arith) (λ k lt. before (suc k) (omega arith)) here

pub put_at : {A : Type 0} (new : Instance A) (xs : List (Instance A)) (place : ℕ) (d : Instance A) → place < length xs
    → ((k : ℕ) → k < place → is_number new.number (get_or xs k d) ≡ false) → is_number new.number (get_or xs place d) ≡ true → put_instance new xs ≡ set xs place new
put_at new [] place d within before here = absurd (omega arith)
put_at new (x ∷ xs) zero d within before here = ap (λ b. cond b (new ∷ xs) (x ∷ put_instance new xs)) here
put_at new (x ∷ xs) (suc place) d within before here =
    ap (λ b. cond b (new ∷ xs) (x ∷ put_instance new xs)) (before 0 (omega arith))
    ∙ ap (λ ys. x ∷ ys) (put_at new xs place d (omega arith) (λ k lt. before (suc k) (omega arith)) here)

pub none_found : {A : Type 0} (i : ℕ) (xs : List (Instance A)) → ((k : ℕ) → k < length xs → (d : Instance A) → is_number i (get_or xs k d) ≡ false) → find (is_number i) xs ≡ None
none_found i [] before = refl
none_found i (x ∷ xs) before =
    ap (λ b. cond b (Some x) (find (is_number i) xs)) (before 0 (omega arith) x)
    ∙ none_found i xs (λ k lt d. before (suc k) (omega arith) d)

-- where none has the number, none is replaced
pub put_none : {A : Type 0} (new : Instance A) (xs : List (Instance A)) → ((k : ℕ) → k < length xs → is_number new.number (get_or xs k new) ≡ false) → put_instance new xs ≡ xs
put_none new [] before = refl
put_none new (x ∷ xs) before =
    ap (λ b. cond b (new ∷ xs) (x ∷ put_instance new xs)) (before 0 (omega arith))
    ∙ ap (λ ys. x ∷ ys) (put_none new xs (λ k lt. before (suc k) (omega arith)))

-- what is found has the number
pub found_number : {A : Type 0} (i : ℕ) (xs : List (Instance A)) (inst : Instance A) → find (is_number i) xs ≡ Some inst → inst.number ≡ i
found_number i [] inst found = absurd (nothing inst found)
  where
    nothing : {A : Type 0} (inst : Instance A) → None ≡ Some inst → ⊥
    nothing inst e = cc
found_number i (x ∷ xs) inst found = ⊎_elim
    (λ (yes : is_number i x ≡ true). let same : Some x ≡ Some inst = sym (cond-true (is_number i x) (Some x) (find (is_number i) xs) yes)
    ∙ found in let here : x ≡ inst = cc in ap (λ (y : Instance _). y.number) (sym here) ∙ eqb-true x.number i yes)
    (λ (no : is_number i x ≡ false). found_number i xs inst (sym (cond-false (is_number i x) (Some x) (find (is_number i) xs) no) ∙ found))
    (cases_Bool (is_number i x))

-- an instance that is put where another of its number was put is put once
pub put_put : {A : Type 0} (x y : Instance A) (zs : List (Instance A)) → x.number ≡ y.number → put_instance x (put_instance y zs) ≡ put_instance x zs
put_put x y [] same = refl
put_put x y (z ∷ zs) same = ⊎_elim
    (λ (yes : (z.number == y.number) ≡ true).
    let z_x : (z.number == x.number) ≡ true = ap (λ n. z.number == n) same ∙ yes in
    let y_x : (y.number == x.number) ≡ true = eq-eqb y.number x.number (sym same) in
    ap (put_instance x) (cond-true (z.number == y.number) (y ∷ zs) (z ∷ put_instance y zs) yes)
    ∙ cond-true (y.number == x.number) (x ∷ zs) (y ∷ put_instance x zs) y_x
    ∙ sym (cond-true (z.number == x.number) (x ∷ zs) (z ∷ put_instance x zs) z_x))
    (λ (no : (z.number == y.number) ≡ false).
    let z_x : (z.number == x.number) ≡ false = ap (λ n. z.number == n) same ∙ no in
    ap (put_instance x) (cond-false (z.number == y.number) (y ∷ zs) (z ∷ put_instance y zs) no)
    ∙ cond-false (z.number == x.number) (x ∷ put_instance y zs) (z ∷ put_instance x (put_instance y zs)) z_x
    ∙ ap (λ ws. z ∷ ws) (put_put x y zs same)
    ∙ sym (cond-false (z.number == x.number) (x ∷ zs) (z ∷ put_instance x zs) z_x))
    (cases_Bool (z.number == y.number))

-- what is found is put where it is
pub put_found : {A : Type 0} (i : ℕ) (x : Instance A) (xs : List (Instance A)) → find (is_number i) xs ≡ Some x → put_instance x xs ≡ xs
put_found i x [] found = refl
put_found i x (y ∷ ys) found = ⊎_elim
    (λ (yes : is_number i y ≡ true).
    let same : Some y ≡ Some x = sym (cond-true (is_number i y) (Some y) (find (is_number i) ys) yes) ∙ found in
    let here : y ≡ x = cc in
    cond-true (y.number == x.number) (x ∷ ys) (y ∷ put_instance x ys) (eq-eqb y.number x.number (ap (λ (z : Instance _). z.number) here))
    ∙ ap (λ z. z ∷ ys) (sym here))
    (λ (no : is_number i y ≡ false).
    let later : find (is_number i) ys ≡ Some x = sym (cond-false (is_number i y) (Some y) (find (is_number i) ys) no) ∙ found in
    let apart : (y.number == x.number) ≡ false = ap (λ n. y.number == n) (found_number i ys x later) ∙ no in
    cond-false (y.number == x.number) (x ∷ ys) (y ∷ put_instance x ys) apart
    ∙ ap (λ zs. y ∷ zs) (put_found i x ys later))
    (cases_Bool (is_number i y))

-- an instance that is put changes nothing for the others
pub filter_put : {A : Type 0} (i : ℕ) (new : Instance A) (xs : List (Instance A)) → new.number ≡ i
    → filter (λ other. not (is_number i other)) (put_instance new xs) ≡ filter (λ other. not (is_number i other)) xs
filter_put i new [] same = refl
filter_put i new (x ∷ xs) same = ⊎_elim
    (λ (yes : (x.number == i) ≡ true).
    let here : (x.number == new.number) ≡ true = ap (λ n. x.number == n) same ∙ yes in
    ap (filter (λ other. not (is_number i other))) (cond-true (x.number == new.number) (new ∷ xs) (x ∷ put_instance new xs) here)
    ∙ ap (λ b. cond (not b) (new ∷ filter (λ other. not (is_number i other)) xs) (filter (λ other. not (is_number i other)) xs)) (eq-eqb new.number i same)
    ∙ sym (ap (λ b. cond (not b) (x ∷ filter (λ other. not (is_number i other)) xs) (filter (λ other. not (is_number i other)) xs)) yes))
    (λ (no : (x.number == i) ≡ false).
    let here : (x.number == new.number) ≡ false = ap (λ n. x.number == n) same ∙ no in
    ap (filter (λ other. not (is_number i other))) (cond-false (x.number == new.number) (new ∷ xs) (x ∷ put_instance new xs) here)
    ∙ ap (λ b. cond (not b) (x ∷ filter (λ other. not (is_number i other)) (put_instance new xs)) (filter (λ other. not (is_number i other)) (put_instance new xs))) no
    ∙ ap (λ ys. x ∷ ys) (filter_put i new xs same)
    ∙ sym (ap (λ b. cond (not b) (x ∷ filter (λ other. not (is_number i other)) xs) (filter (λ other. not (is_number i other)) xs)) no))
    (cases_Bool (x.number == i))

-- what was put is what is found
pub find_put : {A : Type 0} (i : ℕ) (new old : Instance A) (xs : List (Instance A)) → new.number ≡ i → find (is_number i) xs ≡ Some old → find (is_number i) (put_instance new xs) ≡ Some new
find_put i new old [] same found = absurd (nothing_found old found)
find_put i new old (x ∷ xs) same found = ⊎_elim
    (λ (yes : (x.number == i) ≡ true).
    let here : (x.number == new.number) ≡ true = ap (λ n. x.number == n) same ∙ yes in
    ap (find (is_number i)) (cond-true (x.number == new.number) (new ∷ xs) (x ∷ put_instance new xs) here)
    ∙ cond-true (is_number i new) (Some new) (find (is_number i) xs) (eq-eqb new.number i same))
    (λ (no : (x.number == i) ≡ false).
    let here : (x.number == new.number) ≡ false = ap (λ n. x.number == n) same ∙ no in
    ap (find (is_number i)) (cond-false (x.number == new.number) (new ∷ xs) (x ∷ put_instance new xs) here)
    ∙ cond-false (is_number i x) (Some x) (find (is_number i) (put_instance new xs)) no
    ∙ find_put i new old xs same (sym (cond-false (is_number i x) (Some x) (find (is_number i) xs) no) ∙ found))
    (cases_Bool (x.number == i))

-- a sum changes by what the instance that is put has more than the one that was found
pub total_put : {A : Type 0} (f : Instance A → ℕ) (new old : Instance A) (xs : List (Instance A)) → find (is_number new.number) xs ≡ Some old
    → total f (put_instance new xs) + f old ≡ total f xs + f new
total_put f new old [] found = absurd (nothing_found old found)
total_put f new old (x ∷ xs) found = ⊎_elim
    (λ (yes : (x.number == new.number) ≡ true).
    let here : x ≡ old = found_here (is_number new.number) x old xs found yes in
    let put = ap (total f) (cond-true (x.number == new.number) (new ∷ xs) (x ∷ put_instance new xs) yes) in
    omega (arith, put, ap f here))
    (λ (no : (x.number == new.number) ≡ false).
    let put = ap (total f) (cond-false (x.number == new.number) (new ∷ xs) (x ∷ put_instance new xs) no) in
    omega (arith, put, total_put f new old xs (found_later (is_number new.number) x old xs found no)))
    (cases_Bool (x.number == new.number))

-- an instance that is put leaves the numbers
pub numbers_put : {A : Type 0} (new : Instance A) (xs : List (Instance A)) → map (λ x. x.number) (put_instance new xs) ≡ map (λ x. x.number) xs
numbers_put new [] = refl
numbers_put new (x ∷ xs) =
    cond_both (x.number == new.number) (new ∷ xs) (x ∷ put_instance new xs) (λ ys. map (λ y. y.number) ys ≡ x.number ∷ map (λ y. y.number) xs)
    (λ yes. ap (λ n. n ∷ map (λ y. y.number) xs) (sym (eqb-true x.number new.number yes)))
    (λ _. ap (λ ns. x.number ∷ ns) (numbers_put new xs))

-- none of a number is found where all of it went
pub found_none : {A : Type 0} (i : ℕ) (xs : List (Instance A)) → find (is_number i) (filter (λ other. not (is_number i other)) xs) ≡ None
found_none i [] = refl
found_none {A} i (x ∷ xs) = ⊎_elim
    (λ (yes : (x.number == i) ≡ true).
    ap (λ b. find (is_number i) (cond (not b) (x ∷ filter (λ (other : Instance A). not (is_number i other)) xs) (filter (λ (other : Instance A). not (is_number i other)) xs))) yes ∙ found_none i xs)
    (λ (no : (x.number == i) ≡ false).
    ap (λ b. find (is_number i) (cond (not b) (x ∷ filter (λ (other : Instance A). not (is_number i other)) xs) (filter (λ (other : Instance A). not (is_number i other)) xs))) no
    ∙ cond-false (x.number == i) (Some x) (find (is_number i) (filter (λ (other : Instance A). not (is_number i other)) xs)) no
    ∙ found_none i xs)
    (cases_Bool (x.number == i))

-- a number that stands in the list is found
pub number_found : {A : Type 0} (i : ℕ) (xs : List (Instance A)) → list_any (nat_eq i) (map (λ x. x.number) xs) ≡ true → find (is_number i) xs ≡ None → ⊥
number_found i [] h none = both_ways _ refl h
number_found i (x ∷ xs) h none = ⊎_elim
    (λ (yes : (x.number == i) ≡ true). nothing_found x (sym none ∙ cond-true (x.number == i) (Some x) (find (is_number i) xs) yes))
    (λ (no : (x.number == i) ≡ false).
    let other : nat_eq i x.number ≡ false = ne_eqb i x.number (λ same. both_ways _ no (eq-eqb x.number i (sym same))) in
    number_found i xs (sym (ap (λ b. b || list_any (nat_eq i) (map (λ (y : Instance _). y.number) xs)) other) ∙ h) (sym (cond-false (x.number == i) (Some x) (find (is_number i) xs) no) ∙ none))
    (cases_Bool (x.number == i))
