-- The place above a place, damages, and what an entry of sequence 0 names.
use Rattle.std.proofs.Common.{◌≡◌, ◌≢◌, ◌<◌, ◌==◌, ◌∙◌, ℕ, suc, true, false, List, Option, None, Some, if◌then◌else◌, bytes_eq, replicate, refl, sym, ap, subst, ⊎_elim, arith}
use Rattle.std.proofs.lemmas.Bool.{cases_eq}
use Rattle.std.proofs.lemmas.Slice.Eq.{bytes_eq-Decides}
use Rattle.store_api.specs.declared.answer.Mismatch.{Mismatch}
use Rattle.tree_paths.specs.Shape.{IsShape, Shape}
use Rattle.seal.specs.Sealing.{plaintext, seal_tag}
use Rattle.epoch.specs.declared.header.TreeEntry.{TreeEntry}
use Rattle.epoch.proofs.EntryLemmas.{no_difference}
use Rattle.epoch.specs.Copies.{difference, first_damage}
use Rattle.tree_paths.specs.Tree.{Found, block_at, damage_at, entry_of_known, on_image, unless_zero}
use Rattle.tee_base.specs.Words.{Image, Key}

module _ (s : Shape) (is : IsShape s) where
  -- a place below the root isn't the root
  pub not_root : (level p : ℕ) → s.level p ≡ suc level → 0 < p
  not_root level p at =
      ⊎_elim
      (λ (e : p ≡ 0). absurd (let z : s.level p ≡ 0 = subst (λ (q : ℕ). s.level q ≡ 0) (sym e) is.top in omega arith))
      (λ (ne : p ≢ 0). omega arith)
      (cases_eq p 0)

  -- the place above it
  pub above : (level p : ℕ) → p < s.places → s.level p ≡ suc level → (s.level (s.parent p) ≡ level) × (s.parent p < s.places) × (0 < p)
  above level p inside at =
      let positive : 0 < p = not_root level p at in
      let up : s.level p ≡ suc (s.level (s.parent p)) = is.below p positive inside in
      let before : s.parent p < p = is.before p positive in
      (omega arith, omega arith, positive)

  -- at the top there is the root alone
  pub is_root : (p : ℕ) → p < s.places → s.level p ≡ 0 → p ≡ 0
  is_root p inside at =
      ⊎_elim (λ (e : p ≡ 0). e)
      (λ (ne : p ≢ 0). absurd (let up : s.level p ≡ suc (s.level (s.parent p)) = is.below p (omega arith) inside in omega arith))
      (cases_eq p 0)

-- tags that don't differ are equal
pub agree : (found kept : List ℕ) → difference found kept ≡ None → found ≡ kept
unfolding difference
agree found kept =
    elim (bytes_eq found kept) as (λ b. bytes_eq found kept ≡ b →
    (let none : Option Mismatch = None in if b then none else Some (record { found = found; kept = kept })) ≡ None → found ≡ kept) [
      | true ↦ λ e is. (bytes_eq-Decides found kept).0 e
      | false ↦ λ e is. absurd (cc)
    ] refl

-- where the first of two damages is none, there is neither
pub first_none : (a b : Option Mismatch) → first_damage a b ≡ None → a ≡ None
first_none None b e = refl
first_none (Some tags) b e = absurd (cc)

pub second_none : (a b : Option Mismatch) → first_damage a b ≡ None → b ≡ None
second_none None b e = e
second_none (Some tags) b e = absurd (cc)

pub both_none : (a b : Option Mismatch) → a ≡ None → b ≡ None → first_damage a b ≡ None
both_none a b one two = rw (one, two) refl

module _ (s : Shape) (key : Key) (image : Image) (place : ℕ) (e : TreeEntry) where
  -- an entry of sequence 0 names zeros
  pub found_zero : e.sequence ≡ 0 → on_image s key image place e ≡ entry_of_known (replicate 1024 0) e
  unfolding unless_zero
  found_zero none = let t : (e.sequence == 0) ≡ true = grind arith in rw t refl

  -- and each other its block
  pub found_block : e.sequence ≢ 0
      → on_image s key image place e ≡ record { tag = seal_tag key place e.sequence e.iv (image (block_at s place e.copy)); text = plaintext key e.iv (image (block_at s place e.copy)) }
  unfolding unless_zero
  found_block some = let t : (e.sequence == 0) ≡ false = grind arith in rw t refl

  pub zero_damage : e.sequence ≡ 0 → damage_at (on_image s key image) place e ≡ None
  zero_damage none = ap (λ (f : Found). difference f.tag e.tag) (found_zero none) ∙ no_difference e.tag
