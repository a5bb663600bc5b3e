-- Sums over the numbers from one on.
use Rattle.std.proofs.Common.{◌≡◌, ◌≢◌, ℕ, zero, suc, ◌+◌, ◌-◌, ◌<◌, ◌≤◌, Bool, true, false, cond, refl, sym, ◌∙◌, ap, arith}
use Rattle.std.specs.List.{range_with_len, count_by}
use Rattle.std.specs.Prelude.{◌==◌, nat_lt}
use Rattle.std.proofs.lemmas.Bool.{eqb-true, eqb-false, ltb-true, ltb-false}
use Rattle.std.proofs.lemmas.List.Sums.{sum_by-cons}

abbrev pub total : (ℕ → ℕ) → ℕ → ℕ → ℕ
total f a zero = 0
total f a (suc n) = f a + total f (a + 1) n

abbrev pub mark : Bool → ℕ
mark b = cond b 1 0

pub counted : (p : ℕ → Bool) (a n : ℕ) → count_by p (range_with_len a n) ≡ total (λ i. mark (p i)) a n
counted p a zero = refl
counted p a (suc n) = sum_by-cons (λ y. cond (p y) 1 0) a (range_with_len (a + 1) n) ∙ ap (λ (m : ℕ). mark (p a) + m) (counted p (a + 1) n)

pub total_agree : (f g : ℕ → ℕ) (a n : ℕ) → ((i : ℕ) → a ≤ i → i < a + n → f i ≡ g i) → total f a n ≡ total g a n
total_agree f g a zero same = refl
total_agree f g a (suc n) same =
    ap (λ (m : ℕ). m + total f (a + 1) n) (same a (omega arith) (omega arith)) ∙ ap (λ (m : ℕ). g a + m) (total_agree f g (a + 1) n (λ i low high. same i (omega arith) (omega arith)))

four : (p q r s : ℕ) → (p + q) + (r + s) ≡ (p + r) + (q + s)
four p q r s = omega arith

pub total_sum : (f g : ℕ → ℕ) (a n : ℕ) → total (λ i. f i + g i) a n ≡ total f a n + total g a n
total_sum f g a zero = refl
total_sum f g a (suc n) = ap (λ (m : ℕ). (f a + g a) + m) (total_sum f g (a + 1) n) ∙ four (f a) (g a) (total f (a + 1) n) (total g (a + 1) n)

pub total_zero : (f : ℕ → ℕ) (a n : ℕ) → ((i : ℕ) → a ≤ i → i < a + n → f i ≡ 0) → total f a n ≡ 0
total_zero f a zero none = refl
total_zero f a (suc n) none =
    let first : f a ≡ 0 = none a (omega arith) (omega arith) in
    let rest : total f (a + 1) n ≡ 0 = total_zero f (a + 1) n (λ i low high. none i (omega arith) (omega arith)) in
    omega (arith, first, rest)

pub total_swap : (f : ℕ → ℕ → ℕ) (a n b m : ℕ) → total (λ i. total (λ j. f i j) b m) a n ≡ total (λ j. total (λ i. f i j) a n) b m
total_swap f a zero b m = sym (total_zero (λ j. 0) b m (λ j low high. refl))
total_swap f a (suc n) b m =
    ap (λ (s : ℕ). total (λ j. f a j) b m + s) (total_swap f (a + 1) n b m) ∙ sym (total_sum (λ j. f a j) (λ j. total (λ i. f i j) (a + 1) n) b m)

-- a sum in two parts
pub total_split : (f : ℕ → ℕ) (a m n : ℕ) → total f a (m + n) ≡ total f a m + total f (a + m) n
total_split f a zero n =
    let long : total f a (0 + n) ≡ total f a n = ap (λ (k : ℕ). total f a k) (let e : 0 + n ≡ n = omega arith in e) in
    let place : total f a n ≡ total f (a + 0) n = ap (λ (k : ℕ). total f k n) (let e : a ≡ a + 0 = omega arith in e) in
    omega (arith, long, place)
total_split f a (suc m) n =
    let rest = total_split f (a + 1) m n in
    let place : total f (a + 1 + m) n ≡ total f (a + suc m) n = ap (λ (k : ℕ). total f k n) (let e : a + 1 + m ≡ a + suc m = omega arith in e) in
    let long : total f a (suc m + n) ≡ f a + total f (a + 1) (m + n) = ap (λ (k : ℕ). total f a k) (let e : suc m + n ≡ suc (m + n) = omega arith in e) in
    omega (arith, rest, place, long)

-- one number alone has a share
pub total_one : (f : ℕ → ℕ) (a n k : ℕ) → a ≤ k → k < a + n → ((i : ℕ) → a ≤ i → i < a + n → i ≢ k → f i ≡ 0) → total f a n ≡ f k
total_one f a zero k low high none = absurd (omega arith)
total_one f a (suc n) k low high none =
    elim (a == k) as (λ b. (a == k) ≡ b → f a + total f (a + 1) n ≡ f k) [
      | true ↦ λ e.
          let same : a ≡ k = eqb-true a k e in
          let rest : total f (a + 1) n ≡ 0 = total_zero f (a + 1) n (λ i lower higher. none i (omega arith) (omega arith) (λ is. omega (arith, is, same))) in
          let first : f a ≡ f k = ap f same in
          omega (arith, first, rest)
      | false ↦ λ e.
          let other : a ≢ k = eqb-false a k e in
          let first : f a ≡ 0 = none a (omega arith) (omega arith) other in
          let rest : total f (a + 1) n ≡ f k = total_one f (a + 1) n k (omega (arith, other)) (omega arith) (λ i lower higher apart. none i (omega arith) (omega arith) apart) in
          omega (arith, first, rest)
    ] refl

pub total_each : (f : ℕ → ℕ) (a n : ℕ) → ((i : ℕ) → a ≤ i → i < a + n → f i ≡ 1) → total f a n ≡ n
total_each f a zero one = refl
total_each f a (suc n) one =
    let first : f a ≡ 1 = one a (omega arith) (omega arith) in
    let rest : total f (a + 1) n ≡ n = total_each f (a + 1) n (λ i low high. one i (omega arith) (omega arith)) in
    omega (arith, first, rest)

pub total_less : (f g : ℕ → ℕ) (a n : ℕ) → ((i : ℕ) → a ≤ i → i < a + n → f i ≤ g i) → total f a n ≤ total g a n
total_less f g a zero less = omega arith
total_less f g a (suc n) less =
    let first : f a ≤ g a = less a (omega arith) (omega arith) in
    let rest : total f (a + 1) n ≤ total g (a + 1) n = total_less f g (a + 1) n (λ i low high. less i (omega arith) (omega arith)) in
    omega (arith, first, rest)

-- what is marked is met
pub total_met : (p : ℕ → Bool) (a n : ℕ) → 1 ≤ total (λ i. mark (p i)) a n → (k : ℕ) × (a ≤ k) × (k < a + n) × (p k ≡ true)
total_met p a zero some' = absurd (omega arith)
total_met p a (suc n) some' =
    elim (p a) as (λ b. p a ≡ b → 1 ≤ mark b + total (λ i. mark (p i)) (a + 1) n → (k : ℕ) × (a ≤ k) × (k < a + suc n) × (p k ≡ true)) [
      | true ↦ λ e more. (a, omega arith, omega arith, e)
      | false ↦ λ e more.
          let rest = total_met p (a + 1) n (omega (arith, more)) in
          let low : a ≤ rest.0 = omega (arith, rest.1) in
          let high : rest.0 < a + suc n = omega (arith, rest.2) in
          (rest.0, low, high, rest.3)
    ] refl some'

-- what is marked counts
pub total_some : (p : ℕ → Bool) (a n k : ℕ) → a ≤ k → k < a + n → p k ≡ true → 1 ≤ total (λ i. mark (p i)) a n
total_some p a zero k low high is = absurd (omega arith)
total_some p a (suc n) k low high is =
    elim (p a) as (λ b. p a ≡ b → 1 ≤ mark b + total (λ i. mark (p i)) (a + 1) n) [
      | true ↦ λ e. omega arith
      | false ↦ λ e.
          let other : a ≢ k = λ same. (let f : true ≡ false = sym is ∙ ap p (sym same) ∙ e in cc) in
          let rest = total_some p (a + 1) n k (omega (arith, other)) (omega arith) is in
          omega (arith, rest)
    ] refl

-- what is marked once is one
pub total_only : (p : ℕ → Bool) (a n k j : ℕ) → total (λ i. mark (p i)) a n ≡ 1 → a ≤ k → k < a + n → a ≤ j → j < a + n → p k ≡ true → p j ≡ true → k ≡ j
total_only p a zero k j one low high lower higher here there = absurd (omega arith)
total_only p a (suc n) k j one low high lower higher here there =
    elim (p a) as (λ b. p a ≡ b → mark b + total (λ i. mark (p i)) (a + 1) n ≡ 1 → k ≡ j) [
      | true ↦ λ e sum.
          let first : k ≡ a = elim (a == k) as (λ b. (a == k) ≡ b → k ≡ a) [
            | true ↦ λ t. sym (eqb-true a k t)
            | false ↦ λ t. absurd (let other = eqb-false a k t in let more = total_some p (a + 1) n k (omega (arith, other)) (omega arith) here in omega (arith, more, sum))
          ] refl in
          let second : j ≡ a = elim (a == j) as (λ b. (a == j) ≡ b → j ≡ a) [
            | true ↦ λ t. sym (eqb-true a j t)
            | false ↦ λ t. absurd (let other = eqb-false a j t in let more = total_some p (a + 1) n j (omega (arith, other)) (omega arith) there in omega (arith, more, sum))
          ] refl in
          first ∙ sym second
      | false ↦ λ e sum.
          let one' : a ≢ k = λ same. (let f : true ≡ false = sym here ∙ ap p (sym same) ∙ e in cc) in
          let two : a ≢ j = λ same. (let f : true ≡ false = sym there ∙ ap p (sym same) ∙ e in cc) in
          total_only p (a + 1) n k j (omega (arith, sum)) (omega (arith, one')) (omega arith) (omega (arith, two)) (omega arith) here there
    ] refl one

-- one number more
pub total_more : (f : ℕ → ℕ) (a n : ℕ) → total f a (suc n) ≡ total f a n + f (a + n)
total_more f a zero = (let e : f a ≡ f (a + 0) = ap f (let e' : a ≡ a + 0 = omega arith in e') in omega (arith, e))
total_more f a (suc n) =
    let rest = total_more f (a + 1) n in
    let place : f (a + 1 + n) ≡ f (a + suc n) = ap f (let e' : a + 1 + n ≡ a + suc n = omega arith in e') in
    omega (arith, rest, place)

pub rank_more : (p : ℕ → Bool) (n : ℕ) → total (λ i. mark (p i)) 0 (suc n) ≡ total (λ i. mark (p i)) 0 n + mark (p n)
rank_more p n = total_more (λ i. mark (p i)) 0 n ∙ ap (λ (k : ℕ). total (λ i. mark (p i)) 0 n + mark (p k)) (let e : 0 + n ≡ n = omega arith in e)

-- the marked number of a rank
pub ranked : (p : ℕ → Bool) (n r : ℕ) → r < total (λ i. mark (p i)) 0 n → (k : ℕ) × (k < n) × (p k ≡ true) × (total (λ i. mark (p i)) 0 k ≡ r)
ranked p zero r less = absurd (omega (arith, less))
ranked p (suc n) r less =
    elim (nat_lt r (total (λ i. mark (p i)) 0 n)) as (λ b. nat_lt r (total (λ i. mark (p i)) 0 n) ≡ b → (k : ℕ) × (k < suc n) × (p k ≡ true) × (total (λ i. mark (p i)) 0 k ≡ r)) [
      | true ↦ λ e. (let met = ranked p n r (ltb-true r _ e) in let low : met.0 < suc n = omega (arith, met.1) in (met.0, low, met.2, met.3))
      | false ↦ λ e. elim (p n) as (λ b. p n ≡ b → (k : ℕ) × (k < suc n) × (p k ≡ true) × (total (λ i. mark (p i)) 0 k ≡ r)) [
        | true ↦ λ t.
            let more = rank_more p n in
            let one : mark (p n) ≡ 1 = ap mark t in
            let past = ltb-false r _ e in
            let same : total (λ i. mark (p i)) 0 n ≡ r = omega (arith, more, one, past, less) in
            (n, omega arith, t, same)
        | false ↦ λ t. absurd (let more = rank_more p n in let none : mark (p n) ≡ 0 = ap mark t in let past = ltb-false r _ e in omega (arith, more, none, past, less))
      ] refl
    ] refl

rank_grows : (p : ℕ → Bool) (d n : ℕ) → total (λ i. mark (p i)) 0 n ≤ total (λ i. mark (p i)) 0 (n + d)
rank_grows p zero n = ap_le (ap (λ (k : ℕ). total (λ i. mark (p i)) 0 k) (let e : n ≡ n + 0 = omega arith in e))
  where
    ap_le : {a b : ℕ} → a ≡ b → a ≤ b
    ap_le e = omega (arith, e)
rank_grows p (suc d) n =
    let rest = rank_grows p d n in
    let more = rank_more p (n + d) in
    let place : total (λ i. mark (p i)) 0 (suc (n + d)) ≡ total (λ i. mark (p i)) 0 (n + suc d) = ap (λ (k : ℕ). total (λ i. mark (p i)) 0 k) (let e : suc (n + d) ≡ n + suc d = omega arith in e) in
    omega (arith, rest, more, place)

rank_less : (p : ℕ → Bool) (k j : ℕ) → k < j → p k ≡ true → total (λ i. mark (p i)) 0 k < total (λ i. mark (p i)) 0 j
rank_less p k j less is =
    let grows = rank_grows p (j - suc k) (suc k) in
    let place : total (λ i. mark (p i)) 0 (suc k + (j - suc k)) ≡ total (λ i. mark (p i)) 0 j = ap (λ (n : ℕ). total (λ i. mark (p i)) 0 n) (let e : suc k + (j - suc k) ≡ j = omega arith in e) in
    let more = rank_more p k in
    let one : mark (p k) ≡ 1 = ap mark is in
    omega (arith, grows, place, more, one)

-- a rank is one number's
pub rank_only : (p : ℕ → Bool) (k j : ℕ) → p k ≡ true → p j ≡ true → total (λ i. mark (p i)) 0 k ≡ total (λ i. mark (p i)) 0 j → k ≡ j
rank_only p k j here there same =
    elim (nat_lt k j) as (λ b. nat_lt k j ≡ b → k ≡ j) [
      | true ↦ λ e. absurd (let less = rank_less p k j (ltb-true k j e) here in omega (arith, less, same))
      | false ↦ λ e. elim (nat_lt j k) as (λ b. nat_lt j k ≡ b → k ≡ j) [
        | true ↦ λ f. absurd (let less = rank_less p j k (ltb-true j k f) there in omega (arith, less, same))
        | false ↦ λ f. (let one = ltb-false k j e in let two = ltb-false j k f in omega (arith, one, two))
      ] refl
    ] refl
