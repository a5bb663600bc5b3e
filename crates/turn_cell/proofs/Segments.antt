-- Lists: beginnings of one list, segments, and a change within a segment.
use Rattle.std.proofs.Common.{◌≡◌, ℕ, ◌+◌, ◌-◌, ◌≤◌, ◌<◌, ◌⊎◌, ⊎_elim, true, false, leb, List, [], ◌∷◌, ◌++◌, length, take, drop, set, refl, ap, sym, ◌∙◌, arith}
use Rattle.std.proofs.Common.{append_assoc, append-nil, length-take, length-drop, length-set, take-take, drop-drop, take-add, drop-set-lt}
use Rattle.std.proofs.Math.Seq.{take-length, take-set-le}
use Rattle.std.proofs.lemmas.List.{drop-take}
use Rattle.std.proofs.lemmas.Bool.Decides.{leb_tells}
use mathlib.Core.List.{IsPrefix}
use Rattle.turn_cell.specs.View.{segment, ChangesOnlyWithin, longer}

module _ {A : Type 0} where
  pub prefix_refl : (xs : List A) → IsPrefix xs xs
  prefix_refl xs = ([], append-nil xs)

  pub prefix_nil : (xs : List A) → IsPrefix [] xs
  prefix_nil xs = (xs, refl)

  pub prefix_trans : (xs ys zs : List A) → IsPrefix xs ys → IsPrefix ys zs → IsPrefix xs zs
  prefix_trans xs ys zs p q = (p.0 ++ q.0, sym (append_assoc xs p.0 q.0) ∙ (ap (λ (w : List A). w ++ q.0) p.1 ∙ q.1))

  -- of two beginnings of one list the shorter begins the longer
  pub prefix_shorter : (xs ys zs : List A) → IsPrefix xs zs → IsPrefix ys zs → length xs ≤ length ys → IsPrefix xs ys
  prefix_shorter [] ys zs p q le = (ys, refl)
  prefix_shorter (x ∷ xs) [] zs p q le = absurd (omega arith)
  prefix_shorter (x ∷ xs) (y ∷ ys) [] p q le = absurd (cc (p.1))
  prefix_shorter (x ∷ xs) (y ∷ ys) (z ∷ zs) p q le =
      let heads : x ≡ y = cc (p.1, q.1) in
      let rest = prefix_shorter xs ys zs (p.0, cc (p.1)) (q.0, cc (q.1)) (omega arith) in
      (rest.0, cc (heads, rest.1))

  -- of two beginnings of one list, both begin the longer, which begins the list
  pub prefix_longer : (xs ys zs : List A) → IsPrefix xs zs → IsPrefix ys zs → IsPrefix xs (longer xs ys) × IsPrefix ys (longer xs ys) × IsPrefix (longer xs ys) zs
  prefix_longer xs ys zs p q =
      ⊎_elim
      (λ (t : (leb (length xs) (length ys) ≡ true) × (length xs ≤ length ys)). rw (t.0) (prefix_shorter xs ys zs p q t.1, prefix_refl ys, q))
      (λ (t : (leb (length xs) (length ys) ≡ false) × (length ys < length xs)). rw (t.0) (prefix_refl xs, prefix_shorter ys xs zs q p (omega arith), p))
      (leb_tells (length xs) (length ys))

  pub length-segment : (first count : ℕ) (xs : List A) → first + count ≤ length xs → length (segment first count xs) ≡ count
  length-segment first count xs h = simp (length-take, length-drop) (omega arith)

  pub segment_whole : (xs : List A) → xs ≡ segment 0 (length xs) xs
  segment_whole xs = sym (take-length xs)

  -- what is known to be the segment of all elements is the list
  pub all_segment : (first count : ℕ) (xs ys : List A) → ys ≡ segment first count xs → first ≡ 0 → count ≡ length xs → ys ≡ xs
  all_segment first count xs ys known at_start all =
      known ∙ (ap (λ (k : ℕ). segment k count xs) at_start ∙ (ap (λ (k : ℕ). segment 0 k xs) all ∙ sym (segment_whole xs)))

  -- the first part of what is known to be a segment
  pub first_segment : (first count n : ℕ) (xs ys : List A) → ys ≡ segment first count xs → n ≤ count → take n ys ≡ segment first n xs
  first_segment first count n xs ys known h = ap (λ (zs : List A). take n zs) known ∙ take-take n count (drop first xs) h

  -- the rest of it
  pub second_segment : (first count n from : ℕ) (xs ys : List A) → ys ≡ segment first count xs → n ≤ count → first + n ≡ from → drop n ys ≡ segment from (count - n) xs
  second_segment first count n from xs ys known h place =
      let whole : n + (count - n) ≡ count = omega arith in
      ap (λ (zs : List A). drop n zs) known
      ∙ (ap (λ (k : ℕ). drop n (take k (drop first xs))) (sym whole)
      ∙ (drop-take n (count - n) (drop first xs)
      ∙ (ap (λ (zs : List A). take (count - n) zs) (drop-drop n first xs) ∙ ap (λ (k : ℕ). segment k (count - n) xs) place)))

  -- two segments side by side
  pub two_segments : (first n next m : ℕ) (xs ys zs : List A) → ys ≡ segment first n xs → zs ≡ segment next m xs → next ≡ first + n → ys ++ zs ≡ segment first (n + m) xs
  two_segments first n next m xs ys zs known_first known_next place =
      let moved : zs ≡ take m (drop n (drop first xs)) =
      known_next ∙ (ap (λ (k : ℕ). segment k m xs) place ∙ ap (λ (ws : List A). take m ws) (sym (drop-drop n first xs))) in
      ap (λ (ws : List A). ws ++ zs) known_first ∙ (ap (λ (ws : List A). take n (drop first xs) ++ ws) moved ∙ sym (take-add n m (drop first xs)))

  -- a segment on one side of what changes stays as it was
  spared_before : (first count k m : ℕ) (old new : List A) → ChangesOnlyWithin first count old new → k + m ≤ first → segment k m new ≡ segment k m old
  spared_before first count k m old new c h =
      let same : take (k + m) new ≡ take (k + m) old =
      sym (take-take (k + m) first new h) ∙ (ap (λ (ys : List A). take (k + m) ys) c.1 ∙ take-take (k + m) first old h) in
      sym (drop-take k m new) ∙ (ap (λ (ys : List A). drop k ys) same ∙ drop-take k m old)

  spared_after : (first count k m : ℕ) (old new : List A) → ChangesOnlyWithin first count old new → first + count ≤ k → segment k m new ≡ segment k m old
  spared_after first count k m old new c h =
      let e : first + count + (k - (first + count)) ≡ k = omega arith in
      let same : drop k new ≡ drop k old =
      ap (λ (i : ℕ). drop i new) (sym e)
      ∙ (sym (drop-drop (k - (first + count)) (first + count) new)
      ∙ (ap (λ (ys : List A). drop (k - (first + count)) ys) c.2
      ∙ (drop-drop (k - (first + count)) (first + count) old ∙ ap (λ (i : ℕ). drop i old) e))) in
      ap (λ (ys : List A). take m ys) same

  pub spared : (first count k m : ℕ) (old new : List A) → ChangesOnlyWithin first count old new → (k + m ≤ first) ⊎ (first + count ≤ k) → segment k m new ≡ segment k m old
  spared first count k m old new c side = ⊎_elim (spared_before first count k m old new c) (spared_after first count k m old new c) side

  -- nothing changed
  pub changes_nothing : (first count : ℕ) (xs : List A) → ChangesOnlyWithin first count xs xs
  changes_nothing first count xs = (refl, refl, refl)

  -- one element of the range was written
  pub changes_one : (first count i : ℕ) (xs : List A) (x : A) → first ≤ i → i < first + count → ChangesOnlyWithin first count xs (set xs i x)
  changes_one first count i xs x low high = (length-set xs i x, take-set-le first xs i x low, drop-set-lt (first + count) xs i x high)
