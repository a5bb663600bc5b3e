-- What a check of all leaves tells, by the least leaf that breaks a rule.
use Rattle.std.proofs.Common.{◌≡◌, ◌+◌, ◌<◌, ◌++◌, ◌∙◌, ℕ, zero, suc, List, [], ◌∷◌, length, None, Some, Ok, Err, inl, inr, refl, sym, ap, arith}
use Rattle.std.proofs.lemmas.Bool.{cases_lt}
use Rattle.region_plan.specs.Laws.{AgreeInUse}
use Rattle.region_plan.specs.Layout.{layout}
use Rattle.region_plan.specs.Regions.{first_broken, region_of, store_of, unless_broken}
use Rattle.region_plan.specs.declared.form.Form.TheVariants.{One}
use Rattle.region_plan.proofs.AgreeLemmas.{region_same}
use Rattle.region_plan.proofs.FormLemmas.{laid_by}
use Rattle.v1_volume.specs.Checking.{Stand, leaf_in}
use Rattle.v1_volume.proofs.OldRegionLemmas.{one_leaves, one_map}

module _ (found leaves : ℕ → List ℕ) (same : (i : ℕ) → i < 256 → found i ≡ leaves i) where
  agree : AgreeInUse (layout One) leaves found
  agree = record {
    map = λ i low. same i (omega (arith, low, one_map));
    used = λ i low is. same i (omega (arith, low, one_leaves));
  }

  one_region : region_of (layout One) found ≡ region_of (layout One) leaves
  one_region = region_same (layout One) leaves found agree (laid_by One)

  -- the least leaf that breaks a rule is that of the leaves as they are found
  pub broken_told : (leaf : ℕ) → Some leaf ≡ first_broken (layout One) found → region_of (layout One) leaves ≡ Err leaf
  unfolding region_of
  broken_told leaf is = sym one_region ∙ ap (λ r. unless_broken (layout One) found r) (sym is)

  -- where there is none, so is the store
  pub whole_told : None ≡ first_broken (layout One) found → region_of (layout One) leaves ≡ Ok (store_of (layout One) found)
  unfolding region_of
  whole_told is = sym one_region ∙ ap (λ r. unless_broken (layout One) found r) (sym is)

-- the least leaf that breaks a rule is what the leaves stand for
pub broken_is : (found : ℕ → List ℕ) (leaf : ℕ) → Some leaf ≡ first_broken (layout One) found → region_of (layout One) found ≡ Err leaf
unfolding region_of
broken_is found leaf is = ap (λ r. unless_broken (layout One) found r) (sym is)

pub whole_stands : (found : ℕ → List ℕ) → None ≡ first_broken (layout One) found → Stand found
unfolding region_of
whole_stands found is = ap (λ r. unless_broken (layout One) found r) (sym is)

-- one more leaf was read
leaf_before : (xs : List (List ℕ)) (b : List ℕ) (i : ℕ) → i < length xs → leaf_in (xs ++ b ∷ []) i ≡ leaf_in xs i
leaf_before [] b i low = absurd (omega (arith, low))
leaf_before (x ∷ xs) b zero low = refl
leaf_before (x ∷ xs) b (suc i) low = leaf_before xs b i (omega (arith, low))

leaf_last : (xs : List (List ℕ)) (b : List ℕ) → leaf_in (xs ++ b ∷ []) (length xs) ≡ b
leaf_last [] b = refl
leaf_last (x ∷ xs) b = leaf_last xs b

pub length_more : (xs : List (List ℕ)) (b : List ℕ) → length (xs ++ b ∷ []) ≡ length xs + 1
length_more [] b = refl
length_more (x ∷ xs) b = (let rest = length_more xs b in omega (arith, rest))

pub found_more : (P : ℕ → List ℕ) (xs ys : List (List ℕ)) (b : List ℕ) (n : ℕ) → length xs ≡ n → ys ≡ xs ++ b ∷ [] → ((i : ℕ) → i < n → leaf_in xs i ≡ P i) → b ≡ P n
    → (i : ℕ) → i < n + 1 → leaf_in ys i ≡ P i
found_more P xs ys b n long pushed before here i low = ap (λ (l : List (List ℕ)). leaf_in l i) pushed ∙ elim (cases_lt i n) [
  | inl less ↦ leaf_before xs b i (omega (arith, less, long)) ∙ before i less
  | inr high ↦
      let at : i ≡ length xs = omega (arith, high, low, long) in
      let last : n ≡ i = omega (arith, high, low) in
      ap (leaf_in (xs ++ b ∷ [])) at ∙ leaf_last xs b ∙ here ∙ ap P last
]
