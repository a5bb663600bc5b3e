-- No image whose leaves a root seals is refused.
use Rattle.std.proofs.Common.{◌≡◌, ◌<◌, ◌∙◌, if◌then◌else◌, ℕ, zero, suc, true, false, is_none, List, Option, None, Result, Ok, Err, refl, sym, ap, subst, arith}
use Rattle.std.specs.Prelude.{is_ok}
use Rattle.std.proofs.lemmas.Bool.{false≢true}
use Rattle.std.proofs.lemmas.Bool.Decides.{nat_tests}
use Rattle.tee_base.specs.Words.{Image, Key, RegionLeaves}
use Rattle.tee_base.specs.declared.limits.TheConstants.{MAX_HOSTS}
use Rattle.store_api.specs.Stores.{Store}
use Rattle.epoch.specs.Forms.{Form, Root, all_below, is_sealed}
use Rattle.epoch.specs.declared.answer.OpenAnswer.{OpenAnswer}
use Rattle.epoch.specs.declared.header.TreeEntry.{TreeEntry}
use Rattle.epoch.proofs.CommitLemmas.{all_below_each, sealed_each, second_true}
use Rattle.region_plan.specs.Layout.{layout}
use Rattle.region_plan.specs.Regions.{region_of}
use Rattle.region_plan.specs.declared.form.Form.TheVariants.{One}
use Rattle.tree_paths.specs.Shape.{first_shape}
use Rattle.tree_paths.specs.Shapes.{are_first_children, is_first_shape}
use Rattle.tree_paths.specs.Tree.{Look, on_image}
use Rattle.tree_paths.specs.Walk.{Wrong, first_children, first_wrong}
use Rattle.tree_paths.proofs.WalkLemmas.{image_skips, walked_right}
use Rattle.v1_volume.specs.Old.{first_garbled, first_refusal, garbled_at, mismatch_of, old_leaves, old_refusal, old_visits}
use Rattle.v1_volume.specs.Versions.{all_stand, is_old, old_root, volume_form}
use Rattle.v1_volume.specs.Ways.{old_damaged}

-- a region that breaks no rule
garbled_none : (region : ℕ) (r : Result Store ℕ) → ((leaf : ℕ) → r ≡ Err leaf → ⊥) → garbled_at region r ≡ None
garbled_none region (Ok store) never = refl
garbled_none region (Err leaf) never = absurd (never leaf refl)

-- none of so many breaks one
pub first_none : (regions : ℕ → RegionLeaves) (n : ℕ) → ((r : ℕ) → r < n → (leaf : ℕ) → region_of (layout One) (regions r) ≡ Err leaf → ⊥) → first_garbled n regions ≡ None
unfolding first_garbled
first_none regions zero never = refl
first_none regions (suc n) never =
    let rest : first_garbled n regions ≡ None = first_none regions n (λ r low. never r (omega arith)) in
    let last : garbled_at n (region_of (layout One) (regions n)) ≡ None = garbled_none n (region_of (layout One) (regions n)) (never n (omega arith)) in
    rw (rest, last) refl

-- where the walk finds nothing wrong the rules decide
pub by_rules : (look : Look) (root : TreeEntry) → first_wrong look (old_visits look root) ≡ None → old_refusal look root ≡ first_garbled 16 (old_leaves look root)
unfolding old_refusal
by_rules look root none = ap (λ (w : Option Wrong). first_refusal (mismatch_of w) (first_garbled 16 (old_leaves look root))) none

-- a root that seals its leaves stands for a sound image
sealed_sound : (f : Form) (key : List ℕ) (image : ℕ → List ℕ) (root : Root) → is_sealed f key image root ≡ true → f.sound key image root ≡ true
unfolding is_sealed
sealed_sound f key image root sealed =
    second_true (all_below MAX_HOSTS (λ region. all_below f.leaves (λ leaf. is_none (f.damage key image root region leaf)))) (f.sound key image root) sealed

not_ok : (r : Result Store ℕ) (leaf : ℕ) → is_ok r ≡ true → r ≡ Err leaf → ⊥
not_ok (Ok store) leaf ok is = cc
not_ok (Err e) leaf ok is = absurd (false≢true ok)

module _ (key : List ℕ) (image : ℕ → List ℕ) (root : TreeEntry) (sealed : is_sealed volume_form key image (old_root root) ≡ true) where
  -- the walk finds nothing wrong, since no leaf has a damage
  pub sealed_walk : first_wrong (on_image first_shape key image) (old_visits (on_image first_shape key image) root) ≡ None
  sealed_walk =
      walked_right first_shape is_first_shape first_children 3 are_first_children (on_image first_shape key image) (image_skips first_shape key image) root (omega arith)
      (λ r l hr hl.
      sym (old_damaged (on_image first_shape key image) root r l hl)
      ∙ sealed_each volume_form key (old_root root) image sealed r l hr (omega (arith, hl)))

  -- and no region breaks a rule
  pub sealed_stands : (region leaf : ℕ) → region < 16 → region_of (layout One) (old_leaves (on_image first_shape key image) root region) ≡ Err leaf → ⊥
  sealed_stands region leaf low broken =
      let stands : all_stand (old_leaves (on_image first_shape key image) root) ≡ true = sealed_sound volume_form key image (old_root root) sealed in
      not_ok (region_of (layout One) (old_leaves (on_image first_shape key image) root region)) leaf
      (all_below_each 16 (λ (r : ℕ). is_ok (region_of (layout One) (old_leaves (on_image first_shape key image) root r))) stands region low) broken

-- a root of the first version, by its version
pub old_root_is : (root : Root) → is_old root ≡ true → root ≡ old_root root.entry
old_root_is root old =
    let is : root.version ≡ 1 = grind (arith, nat_tests, old) in
    λ i. record { version = is i; entry = root.entry }

-- no image is refused whose leaves the root seals
pub sealed_taken : (key : Key) (root : Root) (image : Image) → is_sealed volume_form key image root ≡ true → volume_form.refuses key image root ≡ None
sealed_taken key root image sealed =
    elim (is_old root) as (λ b. is_old root ≡ b → (let none : Option OpenAnswer = None in if b then old_refusal (on_image first_shape key image) root.entry else none) ≡ None) [
      | true ↦ λ old. let sealed' = subst (λ (r : Root). is_sealed volume_form key image r ≡ true) (old_root_is root old) sealed in
          by_rules (on_image first_shape key image) root.entry (sealed_walk key image root.entry sealed')
          ∙ first_none (old_leaves (on_image first_shape key image) root.entry) 16 (λ r low leaf. sealed_stands key image root.entry sealed' r leaf low)
      | false ↦ λ new. refl
    ] refl
