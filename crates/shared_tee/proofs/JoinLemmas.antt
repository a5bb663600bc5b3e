-- A seat that is joined behind those that came before it, and lists that are taken up from their front.
use Rattle.std.proofs.Common.{◌≡◌, ◌<◌, ◌≤◌, ◌+◌, ◌++◌, ℕ, zero, suc, List, [], ◌∷◌, Some, None, length, take, drop, refl, ◌∙◌, ap, inl, arith}
use Rattle.std.proofs.Common.{drop-drop}
use Rattle.std.proofs.lemmas.Bool.{le-leb}
use Rattle.std.specs.Prelude.{slice_get}
use Rattle.turn_cell.specs.View.{Adjoin, view_after_join}
use Rattle.turn_cell.specs.declared.view.SeatView.{SeatView}

-- ---- lists

module _ {X : Type 0} where
  -- what stands in the front of a list stands in the list, at the same place
  pub within_front : (n i : ℕ) (x : X) (xs : List X) → slice_get (take n xs) i ≡ Some x → (i < n) × (slice_get xs i ≡ Some x)
  within_front zero i x xs there = absurd (let e : None ≡ Some x = there in cc)
  within_front (suc n) i x [] there = absurd (let e : None ≡ Some x = there in cc)
  within_front (suc n) zero x (y ∷ xs) there = (omega arith, there)
  within_front (suc n) (suc i) x (y ∷ xs) there = let t = within_front n i x xs there in let lt : i < n = t.0 in (omega (arith, lt), t.1)

  -- and what stands in the list before a place stands in its front
  pub in_front : (n i : ℕ) (xs : List X) → i < n → slice_get (take n xs) i ≡ slice_get xs i
  in_front zero i xs lt = absurd (omega (arith, lt))
  in_front (suc n) i [] lt = refl
  in_front (suc n) zero (y ∷ xs) lt = refl
  in_front (suc n) (suc i) (y ∷ xs) lt = in_front n i xs (omega (arith, lt))

  -- a place behind so many elements
  pub behind_front : (n i : ℕ) (xs : List X) → slice_get (drop n xs) i ≡ slice_get xs (n + i)
  behind_front zero i xs = ap (λ (k : ℕ). slice_get xs k) (let e : i ≡ 0 + i = omega arith in e)
  behind_front (suc n) i [] = ap (λ (k : ℕ). (let none : List X = [] in slice_get none k)) (let e : i ≡ i = refl in e)
  behind_front (suc n) i (x ∷ xs) = behind_front n i xs ∙ ap (λ (k : ℕ). slice_get (x ∷ xs) k) (let e : suc (n + i) ≡ suc n + i = omega arith in e)

  -- one element more at the end
  pub get_before : (i : ℕ) (xs : List X) (y : X) → i < length xs → slice_get (xs ++ y ∷ []) i ≡ slice_get xs i
  get_before i [] y lt = absurd (omega (arith, lt))
  get_before zero (x ∷ xs) y lt = refl
  get_before (suc i) (x ∷ xs) y lt = get_before i xs y (omega (arith, lt))

  pub get_last : (i : ℕ) (xs : List X) (y : X) → i ≡ length xs → slice_get (xs ++ y ∷ []) i ≡ Some y
  get_last zero [] y is = refl
  get_last (suc i) [] y is = absurd (omega (arith, is))
  get_last zero (x ∷ xs) y is = absurd (omega (arith, is))
  get_last (suc i) (x ∷ xs) y is = get_last i xs y (omega (arith, is))

  -- an element was taken from the front of what is left behind so many
  pub front_taken : (n : ℕ) (xs left : List X) (x : X) → x ∷ left ≡ drop n xs → (slice_get xs n ≡ Some x) × (left ≡ drop (n + 1) xs)
  front_taken zero [] left x is = absurd (cc (is))
  front_taken zero (y ∷ xs) left x is = (let e : y ≡ x = cc (is) in ap (λ (z : X). Some z) e, let e : left ≡ xs = cc (is) in e)
  front_taken (suc n) [] left x is = absurd (cc (is))
  front_taken (suc n) (y ∷ xs) left x is =
      let t = front_taken n xs left x is in
      (t.0, t.1 ∙ ap (λ (k : ℕ). drop k (y ∷ xs)) (let e : suc (n + 1) ≡ suc n + 1 = omega arith in e))

  -- what is left behind more of them
  pub left_further : (m n : ℕ) (left xs rest : List X) → left ≡ drop n xs → rest ≡ drop m left → rest ≡ drop (n + m) xs
  left_further m n left xs rest is then_is = then_is ∙ ap (λ (ys : List X). drop m ys) is ∙ drop-drop m n xs

-- ---- joins

module _ {P E : Type 0} (n : ℕ) (v u : SeatView P E) (first : v.first ≡ 0) (size : length v.own ≡ n) (place : u.first ≡ n) where
  pub adjoins : Adjoin v u
  adjoins = inl (let e : u.first ≡ v.first + length v.own = omega (arith, first, size, place) in e)

  pub own_joined : (w : SeatView P E) → w ≡ view_after_join v u → w.own ≡ v.own ++ u.own
  own_joined w joined =
      ap (λ (x : SeatView P E). x.own) joined ∙ rw (le-leb v.first u.first (let e : v.first ≤ u.first = omega (arith, first) in e)) refl
