-- What is answered of a volume of the first version, by what its walk and its regions are.
use Rattle.std.proofs.Common.{◌≡◌, ◌≢◌, ◌≤◌, ◌<◌, ◌+◌, ◌⊎◌, ◌++◌, ◌∙◌, ℕ, zero, suc}
use Rattle.std.proofs.Common.{true, List, [], ◌∷◌, length, Option, None, Some, Result, Ok, Err, IfErr, refl, sym, ap, subst, inl, inr, ⊎_elim, arith}
use Rattle.std.proofs.lemmas.Bool.{cases_lt}
use Rattle.store_api.specs.declared.answer.Mismatch.{Mismatch}
use Rattle.store_api.specs.declared.leaves.Leaf.{Leaf}
use Rattle.store_api.specs.declared.leaves.LeafAnswer.{LeafAnswer}
use Rattle.store_api.specs.declared.leaves.LeafAnswer.TheVariants as leaf_answers
use Rattle.store_api.specs.Ascending.{is_above_all}
use Rattle.store_api.specs.Volumes.{IfMismatch as IfLeafMismatch, ShowsLeaf}
use Rattle.epoch.specs.Forms.{is_sealed}
use Rattle.epoch.specs.declared.header.TreeEntry.{TreeEntry}
use Rattle.region_plan.specs.Layout.{layout}
use Rattle.region_plan.specs.Regions.{region_of}
use Rattle.region_plan.specs.declared.form.Form.TheVariants.{One}
use Rattle.v1_volume.specs.Checking.{Stand}
use Rattle.tree_paths.specs.Laws.{SkipsZeros}
use Rattle.tree_paths.specs.Shape.{first_shape}
use Rattle.tree_paths.specs.Shapes.{are_first_children, is_first_shape}
use Rattle.tree_paths.specs.Tree.{Look, damage_of, on_image}
use Rattle.tree_paths.specs.Walk.{Visit, Wrong, first_children, first_wrong}
use Rattle.tree_paths.proofs.WalkLemmas.{walked_all}
use Rattle.v1_volume.specs.Answers.{AnswersRegion, AnswersRules, AnswersWalk, IfMismatch, old_answer}
use Rattle.v1_volume.specs.Old.{IsConverted, named_of, old_damage, old_leaves, old_visits}
use Rattle.v1_volume.specs.Versions.{old_root, volume_form}
use Rattle.v1_volume.specs.declared.answer.OldAnswer.{OldAnswer}
use Rattle.v1_volume.specs.declared.answer.OldAnswer.TheVariants as answers
use Rattle.v1_volume.specs.Taken.{sealed_stands, sealed_walk}
use Rattle.v1_volume.specs.Ways.{old_damaged}

module _ (look : Look) (root : TreeEntry) (skips : SkipsZeros look) (nothing : first_wrong look (old_visits look root) ≡ None) where
  -- where the walk finds nothing wrong no leaf has a damage
  pub walked_none : (region leaf : ℕ) → region < 16 → leaf < 256 → old_damage look root region leaf ≡ None
  walked_none region leaf r l =
      old_damaged look root region leaf l
      ∙ walked_all first_shape is_first_shape first_children 3 are_first_children look skips root nothing (first_shape.leaf_place region leaf) (is_first_shape.leaf_inside region leaf r l)

  -- so what a later read answers is no damage
  pub walk_stays : (A B : Type 0) (region : ℕ) (e : OldAnswer) → region < 16
      → IfMismatch {A = A} (Err e) (λ tags. (leaf : ℕ) × (leaf < 256) × (old_damage look root region leaf ≡ Some tags)) → AnswersWalk {A = B} look (old_visits look root) (Err e)
  walk_stays A B region (answers.Mismatch tags) r shows =
      absurd (let both : None ≡ Some tags = sym (walked_none region shows.0 r shows.1) ∙ shows.2 in cc)
  walk_stays A B region (answers.Garbled number leaf) r shows = nothing
  walk_stays A B region answers.Failed r shows = tt
  walk_stays A B region answers.NoMemory r shows = tt

-- an answer of the walk, of whatever call
pub walk_as : (A B : Type 0) (look : Look) (visits : List Visit) (e : OldAnswer) → AnswersWalk {A = A} look visits (Err e) → AnswersWalk {A = B} look visits (Err e)
walk_as A B look visits (answers.Garbled number leaf) told = told
walk_as A B look visits (answers.Mismatch tags) told = told
walk_as A B look visits answers.Failed told = tt
walk_as A B look visits answers.NoMemory told = tt

-- an answer of one region, the others before it standing for stores
pub broken_first : (A : Type 0) (regions : ℕ → ℕ → List ℕ) (region : ℕ) (e : OldAnswer) → region < 16 → ((r : ℕ) → r < region → Stand (regions r))
    → AnswersRegion region (regions region) (Err e) → AnswersRules {A = A} regions (Err e)
broken_first A regions region (answers.Garbled number leaf) low before told = record {
  below = subst (λ (n : ℕ). n < 16) (sym told.0) low;
  broken = subst (λ (n : ℕ). region_of (layout One) (regions n) ≡ Err leaf) (sym told.0) told.1;
  first = λ r less. before r (subst (λ (n : ℕ). r < n) told.0 less);
}
broken_first A regions region (answers.Mismatch tags) low before told = tt
broken_first A regions region answers.Failed low before told = tt
broken_first A regions region answers.NoMemory low before told = tt

-- an answer that is of no rule
pub other_answer : (A : Type 0) (regions : ℕ → ℕ → List ℕ) (e : OldAnswer) → ((r l : ℕ) → e ≢ answers.Garbled r l) → AnswersRules {A = A} regions (Err e)
other_answer A regions (answers.Garbled number leaf) other = absurd (other number leaf refl)
other_answer A regions (answers.Mismatch tags) other = tt
other_answer A regions answers.Failed other = tt
other_answer A regions answers.NoMemory other = tt

-- an answer of a leaf is none of a region
pub leaf_told : (region : ℕ) (leaves : ℕ → List ℕ) (e : LeafAnswer) → AnswersRegion region leaves (Err (old_answer e))
leaf_told region leaves (leaf_answers.Mismatch tags) = tt
leaf_told region leaves leaf_answers.Lost = tt
leaf_told region leaves leaf_answers.Failed = tt
leaf_told region leaves leaf_answers.NoMemory = tt

-- and its damage is the volume's
pub damage_told : (A B : Type 0) (e : LeafAnswer) (P : Mismatch → Type 0) → IfLeafMismatch {A = A} (Err e) P → IfMismatch {A = B} (Err (old_answer e)) P
damage_told A B (leaf_answers.Mismatch tags) P shows = shows
damage_told A B leaf_answers.Lost P shows = tt
damage_told A B leaf_answers.Failed P shows = tt
damage_told A B leaf_answers.NoMemory P shows = tt

-- what is told of the tags of an answer, of whatever call
pub damage_still : (A B : Type 0) (e : LeafAnswer) (P : Mismatch → Type 0) → IfLeafMismatch {A = A} (Err e) P → IfLeafMismatch {A = B} (Err e) P
damage_still A B (leaf_answers.Mismatch tags) P shows = shows
damage_still A B leaf_answers.Lost P shows = tt
damage_still A B leaf_answers.Failed P shows = tt
damage_still A B leaf_answers.NoMemory P shows = tt

-- what is shown of a leaf is so of the region
pub region_shown : (A B : Type 0) (e : LeafAnswer) (look : Look) (root : TreeEntry) (region leaf : ℕ) → leaf < 256
    → ShowsLeaf {A = A} (Err e) (damage_of first_shape look root (first_shape.leaf_place region leaf))
    → IfLeafMismatch {A = B} (Err e) (λ tags. (l : ℕ) × (l < 256) × (old_damage look root region l ≡ Some tags))
region_shown A B (leaf_answers.Mismatch tags) look root region leaf low shows = (leaf, low, old_damaged look root region leaf low ∙ shows)
region_shown A B leaf_answers.Lost look root region leaf low shows = tt
region_shown A B leaf_answers.Failed look root region leaf low shows = tt
region_shown A B leaf_answers.NoMemory look root region leaf low shows = tt

-- one more region was converted
named_before : (xs : List (List Leaf)) (b : List Leaf) (i : ℕ) → i < length xs → named_of (xs ++ b ∷ []) i ≡ named_of xs i
named_before [] b i low = absurd (omega (arith, low))
named_before (x ∷ xs) b zero low = refl
named_before (x ∷ xs) b (suc i) low = named_before xs b i (omega (arith, low))

named_last : (xs : List (List Leaf)) (b : List Leaf) → named_of (xs ++ b ∷ []) (length xs) ≡ b
named_last [] b = refl
named_last (x ∷ xs) b = named_last xs b

pub more_regions : (xs : List (List Leaf)) (b : List Leaf) → length (xs ++ b ∷ []) ≡ length xs + 1
more_regions [] b = refl
more_regions (x ∷ xs) b = (let rest = more_regions xs b in omega (arith, rest))

pub converted_more : (regions : ℕ → ℕ → List ℕ) (xs ys : List (List Leaf)) (b : List Leaf) (n : ℕ) → length xs ≡ n → ys ≡ xs ++ b ∷ []
    → ((r : ℕ) → r < n → IsConverted (regions r) (named_of xs r)) → IsConverted (regions n) b → (r : ℕ) → r < n + 1 → IsConverted (regions r) (named_of ys r)
converted_more regions xs ys b n long pushed before here r low =
    subst (λ (l : List (List Leaf)). IsConverted (regions r) (named_of l r)) (sym pushed)
    (⊎_elim
    (λ (less : r < n). subst (λ (l : List Leaf). IsConverted (regions r) l) (sym (named_before xs b r (omega (arith, less, long)))) (before r less))
    (λ (high : n ≤ r).
    let at : r ≡ length xs = omega (arith, high, low, long) in
    let same : r ≡ n = omega (arith, high, low) in
    subst (λ (l : List Leaf). IsConverted (regions r) l) (sym (ap (named_of (xs ++ b ∷ [])) at ∙ named_last xs b))
    (subst (λ (q : ℕ). IsConverted (regions q) b) (sym same) here))
    (cases_lt r n))

pub numbered_more : (xs ys : List (List Leaf)) (b : List Leaf) (n : ℕ) → length xs ≡ n → ys ≡ xs ++ b ∷ []
    → ((r : ℕ) → r < n → is_above_all (named_of xs r) 1024 ≡ true) → is_above_all b 1024 ≡ true → (r : ℕ) → r < n + 1 → is_above_all (named_of ys r) 1024 ≡ true
numbered_more xs ys b n long pushed before here r low =
    subst (λ (l : List (List Leaf)). is_above_all (named_of l r) 1024 ≡ true) (sym pushed)
    (⊎_elim
    (λ (less : r < n). subst (λ (l : List Leaf). is_above_all l 1024 ≡ true) (sym (named_before xs b r (omega (arith, less, long)))) (before r less))
    (λ (high : n ≤ r).
    let at : r ≡ length xs = omega (arith, high, low, long) in
    subst (λ (l : List Leaf). is_above_all l 1024 ≡ true) (sym (ap (named_of (xs ++ b ∷ [])) at ∙ named_last xs b)) here)
    (cases_lt r n))

module _ (key : List ℕ) (image : ℕ → List ℕ) (root : TreeEntry) (sealed : is_sealed volume_form key image (old_root root) ≡ true) where
  -- what is sealed is read, unless a call failed or there was no memory
  pub sound_read : (A : Type 0) (r : Result A OldAnswer) → AnswersWalk (on_image first_shape key image) (old_visits (on_image first_shape key image) root) r
      → AnswersRules (old_leaves (on_image first_shape key image) root) r → IfErr r (λ why. (why ≡ answers.Failed) ⊎ (why ≡ answers.NoMemory))
  sound_read A (Ok named) walk regions = tt
  sound_read A (Err answers.Failed) walk regions = inl refl
  sound_read A (Err answers.NoMemory) walk regions = inr refl
  sound_read A (Err (answers.Mismatch tags)) walk regions =
      absurd (let none : Option Wrong = None in let clash : none ≡ Some (record { place = walk.0; tags = tags }) = sym (sealed_walk key image root sealed) ∙ walk.1 in cc)
  sound_read A (Err (answers.Garbled region leaf)) walk regions = absurd (sealed_stands key image root sealed region leaf regions.below regions.broken)
