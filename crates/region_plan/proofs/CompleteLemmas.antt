-- Data that is in place, with no index missing, is all that an inode should have.
use Rattle.std.proofs.Common.{◌≡◌, ℕ, zero, suc, ◌+◌, ◌<◌, ◌≤◌, Bool, true, false, List, Option, None, Some, refl, sym, ◌∙◌, ap, subst, arith, nat_le}
use Rattle.std.specs.List.{range_with_len, list_all, list_any}
use Rattle.std.specs.Prelude.{is_some, ◌&&◌, ◌||◌, ◌==◌}
use Rattle.std.proofs.lemmas.Bool.{eqb-true, eqb-false, eq-eqb, leb-true, leb-false, and_from, not_from_false}
use Rattle.region_plan.specs.Checks.{IfDataInPlace}
use Rattle.region_plan.specs.Layout.{Layout}
use Rattle.region_plan.specs.Entries.{entry_at, is_data_of, is_data_at}
use Rattle.region_plan.specs.Inodes.{length_in}
use Rattle.region_plan.specs.Regions.{numbers, has_one, has_data, is_past, leaf_of, data_leaves}
use Rattle.region_plan.proofs.AgreeLemmas.{range_met}
use Rattle.region_plan.proofs.SoundLemmas.{and_both}
use Rattle.region_plan.proofs.Totals.{total, mark, counted, total_swap, total_zero, total_one, total_each, total_less}

unmarked : (b : Bool) → (b ≡ true → ⊥) → mark b ≡ 0
unmarked true never = absurd (never refl)
unmarked false never = refl

-- an answer by both of its sides
pub exact : (r h : Bool) → (r ≡ false → h ≡ false) → (r ≡ true → h ≡ true) → r ≡ h
exact true h wrong right = sym (right refl)
exact false h wrong right = sym (wrong refl)

-- one number more
pub each_more : (P : ℕ → Type 0) (n m : ℕ) → m ≡ n + 1 → ((i : ℕ) → i < n → P i) → P n → (i : ℕ) → i < m → P i
each_more P n m is before here i low =
    elim (i == n) as (λ b. (i == n) ≡ b → P i) [
      | true ↦ λ e. subst P (sym (eqb-true i n e)) here
      | false ↦ λ e. (let other = eqb-false i n e in before i (omega (arith, is, low, other)))
    ] refl

-- of numbers that are the same, at most one is marked
few_marks : (p : ℕ → Bool) (a m : ℕ) → ((k j : ℕ) → p k ≡ true → p j ≡ true → k ≡ j) → total (λ i. mark (p i)) a m ≤ 1
few_marks p a zero same = omega arith
few_marks p a (suc m) same =
    elim (p a) as (λ b. p a ≡ b → mark b + total (λ i. mark (p i)) (a + 1) m ≤ 1) [
      | true ↦ λ e.
          let none : total (λ i. mark (p i)) (a + 1) m ≡ 0 =
          total_zero (λ i. mark (p i)) (a + 1) m (λ i low high. unmarked (p i) (λ t. (let s : a ≡ i = same a i e t in omega (arith, s, low)))) in
          omega (arith, none)
      | false ↦ λ e. (let rest = few_marks p (a + 1) m same in omega (arith, rest))
    ] refl

none_of : (p : ℕ → Bool) (n a : ℕ) → ((i : ℕ) → a ≤ i → i < a + n → p i ≡ false) → list_any p (range_with_len a n) ≡ false
none_of p zero a none = refl
none_of p (suc n) a none = ap (λ b. b || list_any p (range_with_len (a + 1) n)) (none a (omega arith) (omega arith)) ∙ none_of p n (a + 1) (λ i low high. none i (omega arith) (omega arith))

all_of : (p : ℕ → Bool) (n a : ℕ) → ((i : ℕ) → a ≤ i → i < a + n → p i ≡ true) → list_all p (range_with_len a n) ≡ true
all_of p zero a all = refl
all_of p (suc n) a all = ap (λ b. b && list_all p (range_with_len (a + 1) n)) (all a (omega arith) (omega arith)) ∙ all_of p n (a + 1) (λ i low high. all i (omega arith) (omega arith))

-- fewer places than things that have one each, and no place has two
pub pigeons : (p : ℕ → ℕ → Bool) (m k : ℕ) → m < k → ((x : ℕ) → x < k → total (λ i. mark (p x i)) 0 m ≡ 1) → ((i x y : ℕ) → p x i ≡ true → p y i ≡ true → x ≡ y) → ⊥
pigeons p m k more one same =
    let each = total_each (λ x. total (λ i. mark (p x i)) 0 m) 0 k (λ x low high. one x (omega arith)) in
    let turned = total_swap (λ x i. mark (p x i)) 0 k 0 m in
    let less = total_less (λ i. total (λ x. mark (p x i)) 0 k) (λ i. 1) 0 m (λ i low high. few_marks (λ x. p x i) 0 k (same i)) in
    let many = total_each (λ i. 1) 0 m (λ i low high. refl) in
    omega (arith, more, each, turned, less, many)

module _ (L : Layout) (leaves : ℕ → List ℕ) (n blocks : ℕ) (placed : (i : ℕ) → i < L.leaves → IfDataInPlace L leaves n blocks i) where
  found_at : (x k : ℕ) → k < L.leaves → is_data_at L leaves n x k ≡ true → leaf_of L leaves n x ≡ Some k
  found_at x k below is =
      let parts = and_both (is_data_of L leaves n k) ((entry_at L leaves k).index == x) is in
      let at : (entry_at L leaves k).index ≡ x = eqb-true _ x parts.1 in
      subst (λ (y : ℕ). leaf_of L leaves n y ≡ Some k) at (placed k below parts.0).first

  single : (x k j : ℕ) → k < L.leaves → j < L.leaves → is_data_at L leaves n x k ≡ true → is_data_at L leaves n x j ≡ true → k ≡ j
  single x k j low high at there = same k j (sym (found_at x k low at) ∙ found_at x j high there)
    where
      same : (a b : ℕ) → Some a ≡ Some b → a ≡ b
      same a b is = cc

  one_index : (i x y : ℕ) → is_data_at L leaves n x i ≡ true → is_data_at L leaves n y i ≡ true → x ≡ y
  one_index i x y here there =
      sym (eqb-true _ x (and_both (is_data_of L leaves n i) ((entry_at L leaves i).index == x) here).1)
      ∙ eqb-true _ y (and_both (is_data_of L leaves n i) ((entry_at L leaves i).index == y) there).1

  met : (x : ℕ) (r : Option ℕ) → leaf_of L leaves n x ≡ r → is_some r ≡ true → (k : ℕ) × (k < L.leaves) × (is_data_at L leaves n x k ≡ true)
  unfolding leaf_of numbers
  met x None is some' = absurd (let f : false ≡ true = some' in cc)
  met x (Some k) is some' = (let at = range_met (λ i. is_data_at L leaves n x i) L.leaves L.leaves 0 k (omega arith) is in (k, at.0, at.1))

  module _ (limit : ℕ) (more : L.leaves < limit) (found : (x : ℕ) → x < blocks → x < limit → is_some (leaf_of L leaves n x) ≡ true) where
    one : (x : ℕ) → x < blocks → x < limit → total (λ i. mark (is_data_at L leaves n x i)) 0 L.leaves ≡ 1
    one x before few =
        let some' = met x (leaf_of L leaves n x) refl (found x before few) in
        total_one (λ i. mark (is_data_at L leaves n x i)) 0 L.leaves some'.0 (omega arith) (omega (arith, some'.1))
        (λ i low high other. unmarked (is_data_at L leaves n x i) (λ t. other (single x i some'.0 (omega arith) some'.1 t some'.2)))
        ∙ ap mark some'.2

    few : blocks ≤ L.leaves
    few = elim (nat_le blocks L.leaves) as (λ b. nat_le blocks L.leaves ≡ b → blocks ≤ L.leaves) [
      | true ↦ λ e. leb-true blocks L.leaves e
      | false ↦ λ e. absurd (
          let past : L.leaves < blocks = leb-false blocks L.leaves e in
          pigeons (λ x i. is_data_at L leaves n x i) L.leaves (L.leaves + 1) (omega arith) (λ x less. one x (omega (arith, past)) (omega (arith, more))) one_index)
    ] refl

    pub complete_has : blocks ≡ data_leaves (length_in (leaves n)) → has_data L leaves n ≡ true
    unfolding has_data numbers
    complete_has long =
        and_from _ _
        (all_of (λ x. has_one L leaves n x) (data_leaves (length_in (leaves n))) 0 (λ x low high.
        eq-eqb _ 1 (counted (λ i. is_data_at L leaves n x i) 0 L.leaves ∙ one x (omega (arith, long)) (omega (arith, long, few, more)))))
        (not_from_false _ (none_of (λ i. is_past L leaves n i) L.leaves 0 (λ k low high. past_not k (omega arith) (is_data_of L leaves n k)
        (nat_le (data_leaves (length_in (leaves n))) (entry_at L leaves k).index) refl refl)))
      where
        past_not : (k : ℕ) → k < L.leaves → (b c : Bool) → is_data_of L leaves n k ≡ b → nat_le (data_leaves (length_in (leaves n))) (entry_at L leaves k).index ≡ c → (b && c) ≡ false
        past_not k below false c of past = refl
        past_not k below true false of past = refl
        past_not k below true true of past = absurd (let first = (placed k below of).before in let two : data_leaves (length_in (leaves n)) ≤ (entry_at L leaves k).index =
            leb-true _ _ past in omega (arith, first, two, long))
