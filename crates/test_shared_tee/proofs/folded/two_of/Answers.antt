use Rattle.std.proofs.Common.{◌≡◌, ◌⊎◌, inl, inr, ◌<◌, ◌+◌, ◌*◌, ℕ, zero, suc, List, [], ◌∷◌, Some, length, refl, sym, ◌∙◌, ap, subst, ⊎_elim, arith}
use Rattle.std.proofs.lemmas.List.Edits.{length-insert, length-remove}
use Rattle.std.specs.List.{insert, remove}
use Rattle.std.specs.Prelude.{slice_get, unwrap_or}
use Rattle.shared_tee.proofs.PassLemmas.{cell_at}
use Rattle.shared_tee.specs.Ending.{ArePasses}
use Rattle.shared_tee.specs.Passes.{IsPassOf, PassView, Places}
use Rattle.test_shared_tee.proofs.folded.two_of.Goals as goal

module _ {X : Type 0} where
  -- where one place was taken out and filled again, the other places stay
  kept : (xs : List X) (n i : ℕ) (y p : X) → n < length xs → slice_get (insert (remove xs n) n y) i ≡ Some p → ((i ≡ n) × (p ≡ y)) ⊎ (slice_get xs i ≡ Some p)
  kept [] n i y p there at = absurd (omega (arith, there))
  kept (x ∷ xs) zero zero y p there at = inl (refl, sym (ap (λ o. unwrap_or o y) at))
  kept (x ∷ xs) zero (suc i) y p there at = inr at
  kept (x ∷ xs) (suc n) zero y p there at = inr at
  kept (x ∷ xs) (suc n) (suc i) y p there at = ⊎_elim (λ e. inl (ap (λ k. suc k) e.0, e.1)) (λ e. inr e) (kept xs n i y p (omega (arith, there)) at)

  -- what stands behind the first is one place later in the whole
  behind : (xs : List X) (i : ℕ) → 0 < length xs → slice_get (remove xs 0) i ≡ slice_get xs (suc i)
  behind [] i some = absurd (omega (arith, some))
  behind (x ∷ xs) i some = refl

module _ {V A : Type 0} (places : Places) where
  -- it is a pass of the runtime, and stands at its place
  abbrev Stands : ℕ → PassView V A → Type 0
  Stands i p = IsPassOf places p × (p.client < 8) × (i ≡ 8 * p.app + p.client)

  each_stands : (first a b : PassView V A) (rest : List (PassView V A)) → ArePasses places (first ∷ rest) → 7 < length rest → Stands 0 a → Stands 8 b
      → (i : ℕ) (p : PassView V A) → slice_get (a ∷ insert (remove rest 7) 7 b) i ≡ Some p → Stands i p
  each_stands first a b rest all there of_a of_b zero p at = subst (λ q. Stands 0 q) (ap (λ o. unwrap_or o a) at) of_a
  each_stands first a b rest all there of_a of_b (suc i) p at = ⊎_elim
      (λ e. subst (λ k. Stands k p) (ap (λ k. suc k) (sym e.0)) (subst (λ q. Stands 8 q) (sym e.1) of_b))
      (λ e. all.each (suc i) p e)
      (kept rest 7 i b p there at)

  whole : (all : List (PassView V A)) (a b : PassView V A) → ArePasses places all → 8 < length all → Stands 0 a → Stands 8 b → ArePasses places (a ∷ insert (remove (remove all 0) 7) 7 b)
  whole [] a b is there of_a of_b = absurd (omega (arith, there))
  whole (first ∷ rest) a b is there of_a of_b =
      let less = length-remove rest 7 (omega (arith, there)) in
      let same = length-insert (remove rest 7) 7 b (omega (arith, there, less)) in
      let count = is.all in
      record { all = omega (arith, less, same, count); each = each_stands first a b rest is (omega (arith, there)) of_a of_b }

pub returns-clause-first : goal.returns-clause-first
returns-clause-first g c =
    let there = c.requires.there in let n = c.args.passes.ok.0 in
    (c.requires.all.each 0 c.remove-first.result (cell_at c.args.passes.items 0 c.remove-first.result (omega (arith, there, n)) c.remove-first.ensures.value)).0

pub returns-clause-second : goal.returns-clause-second
returns-clause-second g c =
    let all = c.args.passes.items in
    let rest = c.remove-first.new.self.items in
    let there = c.requires.there in let n = c.args.passes.ok.0 in
    let items = c.remove-first.ensures.items in
    let fewer = ap (λ ps. length ps) items in
    let removed = length-remove all 0 (omega (arith, n, there)) in
    (c.requires.all.each 8 c.remove-second.result
    (sym (behind all 7 (omega (arith, n, there))) ∙ ap (λ ps. slice_get ps 7) (sym items)
    ∙ cell_at rest 7 c.remove-second.result (omega (arith, n, there, fewer, removed)) c.remove-second.ensures.value)).0

pub returns-clause-whole : goal.returns-clause-whole
returns-clause-whole g c a b of_a of_b app_a client_a app_b client_b =
    let all = c.args.passes.items in
    let there = c.requires.there in let n = c.args.passes.ok.0 in
    let left = c.remove-second.ensures.items ∙ ap (λ ps. remove ps 7) c.remove-first.ensures.items in
    subst (λ ps. ArePasses c.args.tee.now (a ∷ insert ps 7 b)) (sym left)
    (whole c.args.tee.now all a b c.requires.all (omega (arith, n, there))
    (of_a, omega (arith, client_a), omega (arith, app_a, client_a)) (of_b, omega (arith, client_b), omega (arith, app_b, client_b)))
