-- Codes that are counted.
use Rattle.std.proofs.Common.{◌≡◌, ◌≤◌, ◌+◌, ◌==◌, ℕ, Bool, true, false, cond, nat_lt, List, Some, [], ◌∷◌, ◌++◌, count_by, unwrap_or, ap, sym, ◌∙◌, ⊎_elim, subst, arith, Option}
use Rattle.std.specs.List.{AllByRecursion}
use Rattle.std.specs.List.Sorted.{IsStrictlySortedBy}
use Rattle.std.specs.Map.{keys_of}
use Rattle.std.specs.BTreeMap.{BTreeMap, Updates, get, insert_entry}
use Rattle.std.specs.Cmp.{nat_cmp_is}
use Rattle.std.specs.Ordering.{is_eq, nat_cmp, match_ordering}
use Rattle.std.specs.declared.cmp.Ordering.{Ordering}
use Rattle.std.specs.declared.cmp.Ordering.TheVariants.{Less, Equal, Greater}
use Rattle.std.proofs.lemmas.Bool.{cases_Bool, cases_eq, eq-eqb, eqb-true, ltb-true, ltb-false}
use Rattle.std.proofs.lemmas.List.Sums.{sum_by_push}
use Rattle.summary.specs.Codes.{IsTally, count_at}

-- ---- equal keys

cmp_same : (a b : ℕ) → a ≡ b → is_eq (nat_cmp a b) ≡ true
cmp_same a b e = ap is_eq (sym (nat_cmp_is a b Equal e))

cmp_other : (a b : ℕ) → (a ≡ b → ⊥) → is_eq (nat_cmp a b) ≡ false
cmp_other a b differ =
    ⊎_elim
    (λ (less : nat_lt a b ≡ true). ap is_eq (sym (nat_cmp_is a b Less (ltb-true a b less))))
    (λ (most : nat_lt a b ≡ false).
    ⊎_elim
    (λ (more : nat_lt b a ≡ true). ap is_eq (sym (nat_cmp_is a b Greater (ltb-true b a more))))
    (λ (least : nat_lt b a ≡ false). absurd (differ (omega (arith, ltb-false a b most, ltb-false b a least))))
    (cases_Bool (nat_lt b a)))
    (cases_Bool (nat_lt a b))

eqb_other : (a b : ℕ) → (a ≡ b → ⊥) → (a == b) ≡ false
eqb_other a b differ =
    ⊎_elim (λ (yes : (a == b) ≡ true). absurd (differ (eqb-true a b yes))) (λ (other : (a == b) ≡ false). other) (cases_Bool (a == b))

-- ---- one code more

some_step : (o : Ordering) (xs ys zs : List (ℕ × ℕ)) → AllByRecursion (λ e. 1 ≤ e.1) xs → AllByRecursion (λ e. 1 ≤ e.1) ys → AllByRecursion (λ e. 1 ≤ e.1) zs →
    AllByRecursion (λ e. 1 ≤ e.1) (match_ordering o xs ys zs)
some_step Less xs ys zs a b c = a
some_step Equal xs ys zs a b c = b
some_step Greater xs ys zs a b c = c

some_insert : (es : List (ℕ × ℕ)) (code count : ℕ) → 1 ≤ count → AllByRecursion (λ e. 1 ≤ e.1) es → AllByRecursion (λ e. 1 ≤ e.1) (insert_entry nat_cmp es code count)
some_insert [] code count some h = (some, tt)
some_insert (e ∷ es) code count some h =
    some_step (nat_cmp code e.0) ((code, count) ∷ e ∷ es) ((e.0, count) ∷ es) (e ∷ insert_entry nat_cmp es code count) (some, h) (some, h.1) (h.0, some_insert es code count some h.1)

module _ (found : List ℕ) (m n : BTreeMap ℕ ℕ) (code count : ℕ) (tally : IsTally found m.entries) (more : count ≡ count_at code m.entries + 1) (updates : Updates nat_cmp m n code (Some count)) where
  counted_here : (q : ℕ) → code ≡ q → count_at q n.entries ≡ count_by (λ c. c == q) (found ++ code ∷ [])
  counted_here q e =
      let now : count_at q n.entries ≡ count = ap (λ (o : Option ℕ). unwrap_or o 0) (updates.0 q)
      ∙ ap (λ (b : Bool). unwrap_or (cond b (Some count) (get nat_cmp m q)) 0) (cmp_same code q e) in
      omega (
        arith,
        now,
        more,
        tally.counted code,
        ap (λ (k : ℕ). count_by (λ c. c == k) found) e,
        sum_by_push (λ (c : ℕ). cond (c == q) 1 0) found code,
        ap {B = ℕ} (λ b. cond b 1 0) (eq-eqb code q e),
      )

  counted_elsewhere : (q : ℕ) → (code ≡ q → ⊥) → count_at q n.entries ≡ count_by (λ c. c == q) (found ++ code ∷ [])
  counted_elsewhere q differ =
      let now : count_at q n.entries ≡ count_at q m.entries = ap (λ (o : Option ℕ). unwrap_or o 0) (updates.0 q)
      ∙ ap (λ (b : Bool). unwrap_or (cond b (Some count) (get nat_cmp m q)) 0) (cmp_other code q differ) in
      omega (
        arith,
        now,
        tally.counted q,
        sum_by_push (λ (c : ℕ). cond (c == q) 1 0) found code,
        ap {B = ℕ} (λ b. cond b 1 0) (eqb_other code q differ),
      )

  pub counted_once : n.entries ≡ insert_entry nat_cmp m.entries code count → IsStrictlySortedBy nat_cmp (keys_of n.entries) → IsTally (found ++ code ∷ []) n.entries
  counted_once entries sorted = record {
    sorted = sorted;
    counted = λ q. ⊎_elim (counted_here q) (counted_elsewhere q) (cases_eq code q);
    there = subst (AllByRecursion (λ e. 1 ≤ e.1)) (sym entries) (some_insert m.entries code count (omega (arith, more)) tally.there);
  }
