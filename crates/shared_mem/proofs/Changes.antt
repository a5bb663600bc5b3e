-- The first block of a number: where it is found, what a change of it leaves, and what is left without it.
use Rattle.std.proofs.Common.{◌≡◌, ◌<◌, ◌≤◌, ◌+◌, ℕ, zero, suc, Bool, true, false, not, cond, List, None, Some, [], ◌∷◌, length, get_or, set}
use Rattle.std.proofs.Common.{find, filter, position, nat_lt, count_by, sum_by, refl, sym, ap, ◌∙◌, ⊎_elim, arith}
use Rattle.std.specs.List.{position_or_len, remove}
use Rattle.std.proofs.lemmas.Bool.{cases_Bool, cond-true, ltb-false}
use Rattle.std.proofs.lemmas.List.Quantifiers.{position-Some}
use Rattle.std.proofs.lemmas.List.Sums.{sum_by-cons, fails_before_first}
use Rattle.shared_mem.specs.Blocks.{change_first}

first_changed : {X : Type 0} (q : X → Bool) (f : X → X) (xs : List X) (i : ℕ) (d : X) → i < length xs → q (get_or xs i d) ≡ true → ((k : ℕ) → k < i → q (get_or xs k d) ≡ false) →
    set xs i (f (get_or xs i d)) ≡ change_first q f xs
first_changed q f [] i d inside here before = absurd (omega (arith, inside))
first_changed q f (x ∷ xs) zero d inside here before = rw here refl
first_changed q f (x ∷ xs) (suc i) d inside here before =
    let fails : q x ≡ false = before zero (omega arith) in
    rw fails (ap (λ ys. x ∷ ys) (first_changed q f xs i d (omega (arith, inside)) here (λ k lt. before (suc k) (omega (arith, lt)))))

pub changed_here : {X : Type 0} (q : X → Bool) (f : X → X) (xs ys : List X) (i : ℕ) (x y : X) → Some i ≡ position q ys → ys ≡ xs → x ≡ get_or xs i x → y ≡ f x → set xs i y ≡ change_first q f xs
changed_here q f xs ys i x y at same read change =
    let found = position-Some q xs i x (ap (position q) (sym same) ∙ sym at) in
    ap (λ v. set xs i v) (change ∙ ap f read) ∙ first_changed q f xs i x found.0 found.1 found.2

none_changed : {X : Type 0} (q : X → Bool) (f : X → X) (xs : List X) → ((k : ℕ) (d : X) → k < length xs → q (get_or xs k d) ≡ false) → change_first q f xs ≡ xs
none_changed q f [] fails = refl
none_changed q f (x ∷ xs) fails =
    let here : q x ≡ false = fails zero x (omega arith) in
    rw here (ap (λ ys. x ∷ ys) (none_changed q f xs (λ k d lt. fails (suc k) d (omega (arith, lt)))))

some_none : {X : Type 0} (x : X) → Some x ≡ None → ⊥
some_none x e = cc

all_fail : {X : Type 0} (q : X → Bool) (xs : List X) → position q xs ≡ None → (k : ℕ) (d : X) → k < length xs → q (get_or xs k d) ≡ false
all_fail q xs e k d lt =
    let at : ℕ = position_or_len q xs in
    fails_before_first q xs k d
    (⊎_elim
    (λ (yes : nat_lt at (length xs) ≡ true). let h : Some at ≡ None = sym (cond-true (nat_lt at (length xs)) (Some at) None yes) ∙ e in absurd (some_none at h))
    (λ (no : nat_lt at (length xs) ≡ false). omega (arith, ltb-false at (length xs) no))
    (cases_Bool (nat_lt at (length xs))))

pub nowhere_changed : {X : Type 0} (q : X → Bool) (f : X → X) (xs ys : List X) → None ≡ position q ys → ys ≡ xs → xs ≡ change_first q f xs
nowhere_changed q f xs ys at same = sym (none_changed q f xs (all_fail q xs (ap (position q) (sym same) ∙ sym at)))

first_found : {X : Type 0} (q : X → Bool) (xs : List X) (i : ℕ) (d : X) → i < length xs → q (get_or xs i d) ≡ true → ((k : ℕ) → k < i → q (get_or xs k d) ≡ false) → find q xs ≡ Some (get_or xs i d)
first_found q [] i d inside here before = absurd (omega (arith, inside))
first_found q (x ∷ xs) zero d inside here before = rw here refl
first_found q (x ∷ xs) (suc i) d inside here before =
    let fails : q x ≡ false = before zero (omega arith) in
    rw fails (first_found q xs i d (omega (arith, inside)) here (λ k lt. before (suc k) (omega (arith, lt))))

pub found_here : {X : Type 0} (q : X → Bool) (xs ys : List X) (i : ℕ) (x : X) → Some i ≡ position q ys → ys ≡ xs → x ≡ get_or xs i x → find q xs ≡ Some x
found_here q xs ys i x at same read =
    let found = position-Some q xs i x (ap (position q) (sym same) ∙ sym at) in
    first_found q xs i x found.0 found.1 found.2 ∙ ap Some (sym read)

-- where none passes, all stay
none_out : {X : Type 0} (q : X → Bool) (xs : List X) → count_by q xs ≡ 0 → filter (λ x. not (q x)) xs ≡ xs
none_out q [] none = refl
none_out q (x ∷ xs) none =
    ⊎_elim
    (λ (yes : q x ≡ true). absurd (omega (arith, none, sum_by-cons (λ x. cond (q x) 1 0) x xs, ap {B = ℕ} (λ b. cond b 1 0) yes)))
    (λ (no : q x ≡ false). rw no (ap (λ ys. x ∷ ys) (none_out q xs (omega (arith, none, sum_by-cons (λ x. cond (q x) 1 0) x xs)))))
    (cases_Bool (q x))

-- the only one that passes is taken out at its place
only_out : {X : Type 0} (q : X → Bool) (xs : List X) (i : ℕ) (d : X) → i < length xs → q (get_or xs i d) ≡ true → ((k : ℕ) → k < i → q (get_or xs k d) ≡ false) → count_by q xs ≤ 1 →
    remove xs i ≡ filter (λ x. not (q x)) xs
only_out q [] i d inside here before few = absurd (omega (arith, inside))
only_out q (x ∷ xs) zero d inside here before few =
    rw here (sym (none_out q xs (omega (arith, few, sum_by-cons (λ x. cond (q x) 1 0) x xs, ap {B = ℕ} (λ b. cond b 1 0) here))))
only_out q (x ∷ xs) (suc i) d inside here before few =
    let fails : q x ≡ false = before zero (omega arith) in
    rw fails (ap (λ ys. x ∷ ys) (only_out q xs i d (omega (arith, inside)) here (λ k lt. before (suc k) (omega (arith, lt))) (omega (arith, few, sum_by-cons (λ x. cond (q x) 1 0) x xs))))

pub out_here : {X : Type 0} (q : X → Bool) (xs ys : List X) (i : ℕ) (d : X) → Some i ≡ position q ys → ys ≡ xs → count_by q xs ≤ 1 → remove xs i ≡ filter (λ x. not (q x)) xs
out_here q xs ys i d at same few =
    let found = position-Some q xs i d (ap (position q) (sym same) ∙ sym at) in
    only_out q xs i d found.0 found.1 found.2 few

all_stay : {X : Type 0} (q : X → Bool) (xs : List X) → ((k : ℕ) (d : X) → k < length xs → q (get_or xs k d) ≡ false) → filter (λ x. not (q x)) xs ≡ xs
all_stay q [] fails = refl
all_stay q (x ∷ xs) fails =
    let here : q x ≡ false = fails zero x (omega arith) in
    rw here (ap (λ ys. x ∷ ys) (all_stay q xs (λ k d lt. fails (suc k) d (omega (arith, lt)))))

pub out_nowhere : {X : Type 0} (q : X → Bool) (xs ys : List X) → None ≡ position q ys → ys ≡ xs → xs ≡ filter (λ x. not (q x)) xs
out_nowhere q xs ys at same = sym (all_stay q xs (all_fail q xs (ap (position q) (sym same) ∙ sym at)))
