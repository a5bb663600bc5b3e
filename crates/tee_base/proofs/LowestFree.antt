-- The lowest number that isn't taken.
use Rattle.std.proofs.Common.{◌≡◌, ◌<◌, ◌≤◌, ◌+◌, ℕ, zero, suc, Bool, true, false, not, cond, nat_eq, List, [], ◌∷◌, length, Contains, filter, refl, sym, ap, subst, ◌∙◌, ⊎_elim, arith}
use Rattle.std.specs.List.{list_any}
use Rattle.std.proofs.lemmas.Bool.{eqb-true, eq-eqb, ne_eqb, cases_eq, cases_lt, both_ways, cases_Bool}
use Rattle.std.proofs.lemmas.Map.Views.{any-filter_same, Contains-from_any}
use Rattle.std.proofs.lemmas.List.Filters.{length-filter_both}
use Rattle.std.proofs.lemmas.List.Folds.{list_any_at}
use Rattle.tee_base.specs.Numbers.{first_free, lowest_free}

pub first_free-ge : (k n : ℕ) (xs : List ℕ) → n ≤ first_free k n xs
first_free-ge zero n xs = omega arith
first_free-ge (suc k) n xs =
    elim (list_any (nat_eq n) xs) as (λ b. n ≤ cond b (first_free k (n + 1) xs) n) [ true ↦ omega (arith, first_free-ge k (n + 1) xs) | false ↦ omega arith ]

pub first_free-le : (k n : ℕ) (xs : List ℕ) → first_free k n xs ≤ n + k
first_free-le zero n xs = omega arith
first_free-le (suc k) n xs =
    elim (list_any (nat_eq n) xs) as (λ b. cond b (first_free k (n + 1) xs) n ≤ n + suc k) [ true ↦ omega (arith, first_free-le k (n + 1) xs) | false ↦ omega arith ]

-- ---- steps of a search

pub first_free-end : (k n : ℕ) (xs : List ℕ) → k ≤ 0 → first_free k n xs ≡ n
first_free-end zero n xs h = refl
first_free-end (suc k) n xs h = absurd (omega arith)

pub first_free-here : (k n : ℕ) (xs : List ℕ) → 0 < k → list_any (nat_eq n) xs ≡ false → first_free k n xs ≡ n
first_free-here zero n xs h e = absurd (omega arith)
first_free-here (suc k) n xs h e = rw e refl

pub first_free-next : (k j n : ℕ) (xs : List ℕ) → k ≡ suc j → list_any (nat_eq n) xs ≡ true → first_free k n xs ≡ first_free j (n + 1) xs
first_free-next k j n xs same e = rw (same, e) refl

-- ---- what is found

-- each number from n on that is below it is taken
pub first_free-least : (k n m : ℕ) (xs : List ℕ) → n ≤ m → m < first_free k n xs → list_any (nat_eq m) xs ≡ true
first_free-least zero n m xs above below = absurd (omega arith)
first_free-least (suc k) n m xs above below =
    let step : (b : Bool) → list_any (nat_eq n) xs ≡ b → m < cond b (first_free k (n + 1) xs) n → list_any (nat_eq m) xs ≡ true =
    λ b. elim b as (λ v. list_any (nat_eq n) xs ≡ v → m < cond v (first_free k (n + 1) xs) n → list_any (nat_eq m) xs ≡ true) [
      | true ↦ λ e lt. ⊎_elim (λ (same : n ≡ m). subst (λ (x : ℕ). list_any (nat_eq x) xs ≡ true) same e) (λ (other : n ≡ m → ⊥). first_free-least k (n + 1) m xs (omega arith) lt) (cases_eq n m)
      | false ↦ λ e lt. absurd (omega arith)
    ] in
    step (list_any (nat_eq n) xs) refl below

-- it isn't taken, where not as many numbers as were looked at are
pub first_free-free : (k n : ℕ) (xs : List ℕ) → first_free k n xs < n + k → list_any (nat_eq (first_free k n xs)) xs ≡ false
first_free-free zero n xs below = absurd (omega arith)
first_free-free (suc k) n xs below =
    let step : (b : Bool) → list_any (nat_eq n) xs ≡ b → cond b (first_free k (n + 1) xs) n < n + suc k → list_any (nat_eq (cond b (first_free k (n + 1) xs) n)) xs ≡ false =
    λ b. elim b as (λ v. list_any (nat_eq n) xs ≡ v → cond v (first_free k (n + 1) xs) n < n + suc k → list_any (nat_eq (cond v (first_free k (n + 1) xs) n)) xs ≡ false) [
      | true ↦ λ e lt. first_free-free k (n + 1) xs (omega arith)
      | false ↦ λ e lt. e
    ] in
    step (list_any (nat_eq n) xs) refl below

some_pass : (p : ℕ → Bool) (xs : List ℕ) → list_any p xs ≡ true → 0 < length (filter p xs)
some_pass p [] h = absurd (both_ways _ refl h)
some_pass p (x ∷ xs) h =
    let step : (b : Bool) → p x ≡ b → 0 < length (cond b (x ∷ filter p xs) (filter p xs)) =
    λ b. elim b as (λ v. p x ≡ v → 0 < length (cond v (x ∷ filter p xs) (filter p xs))) [
      | true ↦ λ e. omega arith
      | false ↦ λ e. some_pass p xs (rw e at h)
    ] in
    step (p x) refl

-- a list that has each of k numbers in a row isn't shorter
pub row_fits : (k n : ℕ) (xs : List ℕ) → ((m : ℕ) → n ≤ m → m < n + k → list_any (nat_eq m) xs ≡ true) → k ≤ length xs
row_fits zero n xs h = omega arith
row_fits (suc k) n xs h =
    let is_last : ℕ → Bool = λ y. nat_eq (n + k) y in
    let others : List ℕ = filter (λ y. not (is_last y)) xs in
    let fewer : length (filter is_last xs) + length others ≡ length xs = length-filter_both is_last (λ y. not (is_last y)) (λ x. refl) xs in
    let one : 0 < length (filter is_last xs) = some_pass is_last xs (h (n + k) (omega arith) (omega arith)) in
    let kept : (m : ℕ) → n ≤ m → m < n + k → list_any (nat_eq m) others ≡ true = λ m low high.
    any-filter_same (nat_eq m) (λ y. not (is_last y)) true (λ y e. ap not (ne_eqb (n + k) y (λ same. omega (arith, eqb-true m y e)))) xs ∙ h m low (omega arith) in
    let rest : k ≤ length others = row_fits k n others kept in
    omega arith

pub lowest_free-untaken : (xs : List ℕ) → list_any (nat_eq (lowest_free xs)) xs ≡ false
unfolding lowest_free
lowest_free-untaken xs =
    ⊎_elim (λ (below : first_free (length xs) 1 xs < 1 + length xs). first_free-free (length xs) 1 xs below)
    (λ (end : 1 + length xs ≤ first_free (length xs) 1 xs). ⊎_elim
    (λ (taken : list_any (nat_eq (first_free (length xs) 1 xs)) xs ≡ true).
    let all : (m : ℕ) → 1 ≤ m → m < 1 + suc (length xs) → list_any (nat_eq m) xs ≡ true = λ m low high. ⊎_elim
    (λ (lt : m < first_free (length xs) 1 xs). first_free-least (length xs) 1 m xs low lt)
    (λ (ge : first_free (length xs) 1 xs ≤ m). let same : first_free (length xs) 1 xs ≡ m = omega (arith, first_free-le (length xs) 1 xs) in
    subst (λ (x : ℕ). list_any (nat_eq x) xs ≡ true) same taken)
    (cases_lt m (first_free (length xs) 1 xs)) in
    absurd (omega (arith, row_fits (suc (length xs)) 1 xs all)))
    (λ (free : list_any (nat_eq (first_free (length xs) 1 xs)) xs ≡ false). free)
    (cases_Bool (list_any (nat_eq (first_free (length xs) 1 xs)) xs)))
    (cases_lt (first_free (length xs) 1 xs) (1 + length xs))

pub lowest_free-free : (xs : List ℕ) → ¬ Contains xs (lowest_free xs)
lowest_free-free xs h =
    both_ways _ (lowest_free-untaken xs) (list_any_at (nat_eq (lowest_free xs)) xs h.0 (lowest_free xs) h.1 (eq-eqb _ _ (sym h.2)))

pub lowest_free-least : (xs : List ℕ) (n : ℕ) → 1 ≤ n → n < lowest_free xs → Contains xs n
unfolding lowest_free
lowest_free-least xs n low high = Contains-from_any {eq = nat_eq} eqb-true n xs (first_free-least (length xs) 1 n xs low high)

pub lowest_free-positive : (xs : List ℕ) → 1 ≤ lowest_free xs
unfolding lowest_free
lowest_free-positive xs = first_free-ge (length xs) 1 xs

pub lowest_free-near : (xs : List ℕ) → lowest_free xs ≤ length xs + 1
unfolding lowest_free
lowest_free-near xs = omega (arith, first_free-le (length xs) 1 xs)
