-- What a loop over numbers finds, and how often.
use Rattle.std.proofs.Common.{◌≡◌, ◌≢◌, ◌+◌, ◌<◌, ◌≤◌, ◌∙◌, ℕ, zero, suc, Bool, true, false, cond, None, Some, find, refl, sym, ap, arith}
use Rattle.std.specs.Prelude.{◌==◌}
use Rattle.std.specs.List.{range_with_len, list_any, list_all, count_by}
use Rattle.std.proofs.lemmas.Bool.{eqb-true, eqb-false}
use Rattle.std.proofs.lemmas.List.Folds.{list_any_at, list_all_at}
use Rattle.std.proofs.lemmas.List.FromFn.{get_or-range_with_len, length-range_with_len}
use Rattle.region_plan.proofs.SoundLemmas.{none_range, each_range, none_found}
use Rattle.region_plan.proofs.Totals.{counted, mark, rank_more}

in_range : (i : ℕ) (p : ℕ → Bool) → p (0 + i) ≡ p i
in_range i p = ap p (let e : 0 + i ≡ i = omega arith in e)

-- one of the numbers passes
pub any_is : (p : ℕ → Bool) (n i : ℕ) → i < n → p i ≡ true → list_any p (range_with_len 0 n) ≡ true
any_is p n i below is = list_any_at p (range_with_len 0 n) i 0 (let long = length-range_with_len 0 n in omega (arith, below, long))
    (ap p (get_or-range_with_len 0 n i 0 below) ∙ in_range i p ∙ is)

-- one of them doesn't
pub all_isnt : (p : ℕ → Bool) (n i : ℕ) → i < n → p i ≡ false → list_all p (range_with_len 0 n) ≡ false
all_isnt p n i below isnt = list_all_at p (range_with_len 0 n) i 0 (let long = length-range_with_len 0 n in omega (arith, below, long))
    (ap p (get_or-range_with_len 0 n i 0 below) ∙ in_range i p ∙ isnt)

pub none_is : (p : ℕ → Bool) (n : ℕ) → ((i : ℕ) → i < n → p i ≡ false) → list_any p (range_with_len 0 n) ≡ false
none_is p n none = none_range p n 0 (λ i low high. none i (omega arith))

pub each_is : (p : ℕ → Bool) (n : ℕ) → ((i : ℕ) → i < n → p i ≡ true) → list_all p (range_with_len 0 n) ≡ true
each_is p n all = each_range p n 0 (λ i low high. all i (omega arith))

pub nothing_is : (p : ℕ → Bool) (n : ℕ) → ((i : ℕ) → i < n → p i ≡ false) → find p (range_with_len 0 n) ≡ None
nothing_is p n none = none_found p n 0 (λ i low high. none i (omega arith))

first_from : (p : ℕ → Bool) (n a i : ℕ) → a ≤ i → i < a + n → ((j : ℕ) → a ≤ j → j < i → p j ≡ false) → p i ≡ true → find p (range_with_len a n) ≡ Some i
first_from p zero a i low high before is = absurd (omega arith)
first_from p (suc n) a i low high before is =
    elim (a == i) as (λ b. (a == i) ≡ b → cond (p a) (Some a) (find p (range_with_len (a + 1) n)) ≡ Some i) [
      | true ↦ λ e. (let same : a ≡ i = eqb-true a i e in
          ap (λ b. cond b (Some a) (find p (range_with_len (a + 1) n))) (ap p same ∙ is) ∙ ap (λ (k : ℕ). Some k) same)
      | false ↦ λ e. (let other : a ≢ i = eqb-false a i e in
          ap (λ b. cond b (Some a) (find p (range_with_len (a + 1) n))) (before a (omega arith) (omega (arith, other)))
          ∙ first_from p n (a + 1) i (omega (arith, other)) (omega arith) (λ j least less. before j (omega arith) less) is)
    ] refl

-- the first number that passes
pub first_is : (p : ℕ → Bool) (n i : ℕ) → i < n → ((j : ℕ) → j < i → p j ≡ false) → p i ≡ true → find p (range_with_len 0 n) ≡ Some i
first_is p n i below before is = first_from p n 0 i (omega arith) (omega arith) (λ j least less. before j less) is

-- one number more is counted
pub count_more : (p : ℕ → Bool) (n : ℕ) → count_by p (range_with_len 0 (n + 1)) ≡ count_by p (range_with_len 0 n) + mark (p n)
count_more p n =
    ap (λ (m : ℕ). count_by p (range_with_len 0 m)) (let e : n + 1 ≡ suc n = omega arith in e)
    ∙ counted p 0 (suc n) ∙ rank_more p n ∙ ap (λ (m : ℕ). m + mark (p n)) (sym (counted p 0 n))
