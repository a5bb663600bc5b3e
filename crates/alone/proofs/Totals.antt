-- Sums and counts over lists, element by element.
use Rattle.std.proofs.Common.{ℕ, ◌≡◌, ◌≢◌, ◌+◌, ◌≤◌, ◌<◌, ◌==◌, suc, Bool, true, false, cond, List, [], ◌∷◌, ◌++◌, None, Some, find, filter}
use Rattle.std.proofs.Common.{map, length, get_or, count_by, AllPairs, refl, sym, ap, subst, ◌∙◌, ⊎_elim, eq-eqb, arith}
use Rattle.std.specs.List.{AllByRecursion}
use Rattle.std.proofs.lemmas.Bool.{cases_Bool, cond-true, cond-false, cond_both, eqb-true}
use Rattle.std.proofs.lemmas.List.Recursion.{is_sum_by}

-- one where it is so
abbrev pub bit : Bool → ℕ
bit b = cond b 1 0

-- the sum of a measure over a list
abbrev pub total : {X : Type 0} → (X → ℕ) → List X → ℕ
total f [] = 0
total f (x ∷ xs) = f x + total f xs

pub total_count : {X : Type 0} (p : X → Bool) (xs : List X) → total (λ x. bit (p x)) xs ≡ count_by p xs
total_count p xs = is_sum_by (total (λ x. bit (p x))) (λ x. bit (p x)) refl (λ _ _. refl) xs

pub total_push : {X : Type 0} (f : X → ℕ) (xs : List X) (y : X) → total f (xs ++ y ∷ []) ≡ total f xs + f y
total_push f [] y = omega arith
total_push f (x ∷ xs) y = omega (arith, total_push f xs y)

pub total_both : {X : Type 0} (f g : X → ℕ) (xs : List X) → total (λ x. f x + g x) xs ≡ total f xs + total g xs
total_both f g [] = refl
total_both f g (x ∷ xs) = omega (arith, total_both f g xs)

pub total_map : {X Y : Type 0} (f : Y → ℕ) (h : X → Y) (xs : List X) → total f (map h xs) ≡ total (λ x. f (h x)) xs
total_map f h [] = refl
total_map f h (x ∷ xs) = ap (λ n. f (h x) + n) (total_map f h xs)

pub total_filter : {X : Type 0} (f : X → ℕ) (q : X → Bool) (xs : List X) → total f (filter q xs) ≡ total (λ x. cond (q x) (f x) 0) xs
total_filter f q [] = refl
total_filter f q (x ∷ xs) =
    cond_both (q x) (x ∷ filter q xs) (filter q xs) (λ ys. total f ys ≡ cond (q x) (f x) 0 + total (λ y. cond (q y) (f y) 0) xs)
    (λ yes. omega (arith, total_filter f q xs, cond-true (q x) (f x) 0 yes))
    (λ no. omega (arith, total_filter f q xs, cond-false (q x) (f x) 0 no))

pub total_le : {X : Type 0} (f g : X → ℕ) (xs : List X) → ((x : X) → f x ≤ g x) → total f xs ≤ total g xs
total_le f g [] h = omega arith
total_le f g (x ∷ xs) h = omega (arith, h x, total_le f g xs h)

pub total_le_each : {X : Type 0} (f g : X → ℕ) (xs : List X) → AllByRecursion (λ x. f x ≤ g x) xs → total f xs ≤ total g xs
total_le_each f g [] h = omega arith
total_le_each f g (x ∷ xs) h = omega (arith, h.0, total_le_each f g xs h.1)

pub total_zero : {X : Type 0} (xs : List X) → total (λ x. 0) xs ≡ 0
total_zero [] = refl
total_zero (x ∷ xs) = omega (arith, total_zero xs)

pub total_ones : {X : Type 0} (xs : List X) → total (λ x. 1) xs ≡ length xs
total_ones [] = refl
total_ones (x ∷ xs) = omega (arith, total_ones xs)

-- ---- what is found

pub nothing_found : {X : Type 0} (x : X) → None ≡ Some x → ⊥
nothing_found x never = cc

pub found_here : {X : Type 0} (p : X → Bool) (x y : X) (xs : List X) → find p (x ∷ xs) ≡ Some y → p x ≡ true → x ≡ y
found_here p x y xs e h = let same : Some x ≡ Some y = sym (cond-true (p x) (Some x) (find p xs) h) ∙ e in cc

pub found_later : {X : Type 0} (p : X → Bool) (x y : X) (xs : List X) → find p (x ∷ xs) ≡ Some y → p x ≡ false → find p xs ≡ Some y
found_later p x y xs e h = sym (cond-false (p x) (Some x) (find p xs) h) ∙ e

pub found_passes : {X : Type 0} (p : X → Bool) (xs : List X) (y : X) → find p xs ≡ Some y → p y ≡ true
found_passes p [] y e = absurd (nothing_found y e)
found_passes p (x ∷ xs) y e = ⊎_elim
    (λ (yes : p x ≡ true). subst (λ z. p z ≡ true) (found_here p x y xs e yes) yes)
    (λ (no : p x ≡ false). found_passes p xs y (found_later p x y xs e no))
    (cases_Bool (p x))

pub found_has : {X : Type 0} (P : X → Type 0) (p : X → Bool) (xs : List X) (y : X) → AllByRecursion P xs → find p xs ≡ Some y → P y
found_has P p [] y h e = absurd (nothing_found y e)
found_has P p (x ∷ xs) y h e = ⊎_elim
    (λ (yes : p x ≡ true). subst P (found_here p x y xs e yes) h.0)
    (λ (no : p x ≡ false). found_has P p xs y h.1 (found_later p x y xs e no))
    (cases_Bool (p x))

-- one that is found counts
pub found_counts : {X : Type 0} (f : X → ℕ) (p : X → Bool) (xs : List X) (y : X) → find p xs ≡ Some y → f y ≤ total f xs
found_counts f p [] y e = absurd (nothing_found y e)
found_counts f p (x ∷ xs) y e = ⊎_elim
    (λ (yes : p x ≡ true). omega (arith, ap f (found_here p x y xs e yes)))
    (λ (no : p x ≡ false). omega (arith, found_counts f p xs y (found_later p x y xs e no)))
    (cases_Bool (p x))

-- where all grow, the sum grows by as much as one that is found
pub found_grows : {X : Type 0} (f g : X → ℕ) (c : ℕ) (p : X → Bool) (xs : List X) (y : X) → find p xs ≡ Some y → AllByRecursion (λ x. f x ≤ g x) xs → f y + c ≤ g y → total f xs + c ≤ total g xs
found_grows f g c p [] y e h more = absurd (nothing_found y e)
found_grows f g c p (x ∷ xs) y e h more = ⊎_elim
    (λ (yes : p x ≡ true). let same = found_here p x y xs e yes in omega (arith, ap f same, ap g same, more, total_le_each f g xs h.1))
    (λ (no : p x ≡ false). omega (arith, h.0, found_grows f g c p xs y (found_later p x y xs e no) h.1 more))
    (cases_Bool (p x))

-- ---- numbers that stand once

-- how many have this number
abbrev pub having : {X : Type 0} → (X → ℕ) → ℕ → List X → ℕ
having number n xs = total (λ x. bit (number x == n)) xs

pub each_from_index : {X : Type 0} (P : X → Type 0) (xs : List X) → ((k : ℕ) (d : X) → k < length xs → P (get_or xs k d)) → AllByRecursion P xs
each_from_index P [] h = tt
each_from_index P (x ∷ xs) h = (h 0 x (omega arith), each_from_index P xs (λ k d lt. h (suc k) d (omega arith)))

having_none : {X : Type 0} (number : X → ℕ) (n : ℕ) (xs : List X) → AllByRecursion (λ x. number x ≢ n) xs → having number n xs ≡ 0
having_none number n [] h = refl
having_none number n (x ∷ xs) h =
    cond_both (number x == n) 1 0 (λ (k : ℕ). k + having number n xs ≡ 0)
    (λ yes. absurd (h.0 (eqb-true (number x) n yes)))
    (λ _. omega (arith, having_none number n xs h.1))

pub having_once : {X : Type 0} (R : X → X → Type 0) (number : X → ℕ) → ((x y : X) → R x y → number x ≢ number y) → (xs : List X) → AllPairs R xs → (n : ℕ) → having number n xs ≤ 1
having_once R number apart [] h n = omega arith
having_once {X} R number apart (x ∷ xs) h n =
    cond_both (number x == n) 1 0 (λ (k : ℕ). k + having number n xs ≤ 1)
    (λ yes.
    let here : number x ≡ n = eqb-true (number x) n yes in
    let later : AllByRecursion (λ y. number y ≢ n) xs = each_from_index (λ y. number y ≢ n) xs (λ k d lt same. apart x (get_or xs k d) (h 0 (suc k) d (omega arith) (omega arith)) (here ∙ sym same)) in
    omega (arith, having_none number n xs later))
    (λ _. let rest = having_once R number apart xs (λ i j d lt within. h (suc i) (suc j) d (omega arith) (omega arith)) n in omega (arith, rest))

none_having : {X : Type 0} (P : X → Type 0) (number : X → ℕ) (n : ℕ) (xs : List X) → having number n xs ≤ 0 → AllByRecursion (λ x. number x ≡ n → P x) xs
none_having P number n [] h = tt
none_having P number n (x ∷ xs) h = (
  λ same. absurd (omega (arith, h, ap bit (eq-eqb (number x) n same))),
  none_having P number n xs (omega (arith, h)),
)

-- one of the number of another that is found is that one
pub alike : {X : Type 0} (number : X → ℕ) (n : ℕ) (p : X → Bool) (xs : List X) (y : X) → having number n xs ≤ 1 → find p xs ≡ Some y → number y ≡ n → AllByRecursion (λ x. number x ≡ n → x ≡ y) xs
alike number n p [] y once e same = tt
alike number n p (x ∷ xs) y once e same = ⊎_elim
    (λ (yes : p x ≡ true).
    let here : x ≡ y = found_here p x y xs e yes in
    let one : bit (number x == n) ≡ 1 = ap bit (eq-eqb (number x) n (ap number here ∙ same)) in
    (λ _. here, none_having (λ z. z ≡ y) number n xs (omega (arith, one, once))))
    (λ (no : p x ≡ false).
    let found : find p xs ≡ Some y = found_later p x y xs e no in
    let one : bit (number y == n) ≡ 1 = ap bit (eq-eqb (number y) n same) in
    let there = found_counts (λ z. bit (number z == n)) p xs y found in
    (λ also. absurd (omega (arith, once, one, there, ap bit (eq-eqb (number x) n also))), alike number n p xs y (omega (arith, once)) found same))
    (cases_Bool (p x))

-- a measure of those of one number that stands once
pub total_once : {X : Type 0} (number : X → ℕ) (n c : ℕ) (xs : List X) → having number n xs ≤ 1 → total (λ x. cond (number x == n) c 0) xs ≤ c
total_once number n c [] once = omega arith
total_once {X} number n c (x ∷ xs) once = ⊎_elim
    (λ (yes : (number x == n) ≡ true).
    let one : bit (number x == n) ≡ 1 = ap bit yes in
    let none : total (λ (z : X). cond (number z == n) c 0) xs ≤ 0 = none_total xs (omega (arith, one, once)) in
    omega (arith, cond-true (number x == n) c 0 yes, none))
    (λ (no : (number x == n) ≡ false). omega (arith, cond-false (number x == n) c 0 no, ap bit no, once, total_once number n c xs (omega (arith, once))))
    (cases_Bool (number x == n))
  where
    none_total : (ys : List X) → having number n ys ≤ 0 → total (λ (z : X). cond (number z == n) c 0) ys ≤ 0
    none_total [] h = omega arith
    none_total (y ∷ ys) h = ⊎_elim
        (λ (yes : (number y == n) ≡ true). absurd (omega (arith, h, ap bit yes)))
        (λ (no : (number y == n) ≡ false). omega (arith, cond-false (number y == n) c 0 no, none_total ys (omega (arith, h))))
        (cases_Bool (number y == n))
