-- A seat of one part, among the parts of a value.
use Rattle.std.proofs.Common.{◌≡◌, ◌<◌, ℕ, zero, suc, List, [], ◌∷◌, length, get_or, set, refl, sym, subst, ◌∙◌, ap, arith}
use Rattle.turn_cell.specs.View.{ChangesOnlyWithin, segment, taken_parts, with_turn}
use Rattle.turn_cell.specs.declared.view.SeatView.{SeatView}
use Rattle.turn_cell.specs.declared.view.Turn.{Turn}
use Rattle.turn_cell.proofs.Segments.{changes_one}

module _ {P : Type 0} (d : P) where
  -- it finds its part at its place
  pub own_part : (place : ℕ) (parts own : List P) → segment place 1 parts ≡ own → length own ≡ 1 → (place < length parts) × (get_or parts place d ≡ get_or own 0 d)
  own_part zero [] own is one = absurd (let n : 0 ≡ 1 = ap (λ (ps : List P). length ps) is ∙ one in omega (arith, n))
  own_part zero (p ∷ parts) own is one = (omega arith, ap (λ (ps : List P). get_or ps 0 d) is)
  own_part (suc place) [] own is one = absurd (let n : 0 ≡ 1 = ap (λ (ps : List P). length ps) is ∙ one in omega (arith, n))
  own_part (suc place) (p ∷ parts) own is one = let t = own_part place parts own is one in let lt : place < length parts = t.0 in (omega (arith, lt), t.1)

  -- and so it does after they changed
  pub own_after : (place : ℕ) (parts : List P) → place < length parts → (length (segment place 1 parts) ≡ 1) × (get_or (segment place 1 parts) 0 d ≡ get_or parts place d)
  own_after zero [] lt = absurd (omega (arith, lt))
  own_after zero (p ∷ parts) lt = (refl, refl)
  own_after (suc place) [] lt = absurd (omega (arith, lt))
  own_after (suc place) (p ∷ parts) lt = own_after place parts (omega (arith, lt))

module _ {P E : Type 0} (place : ℕ) (v : SeatView P E) (first : v.first ≡ place) (one : length v.own ≡ 1) where
  pub segment_is : (parts : List P) → segment v.first (length v.own) parts ≡ segment place 1 parts
  segment_is parts = ap (λ k. segment k (length v.own) parts) first ∙ ap (λ n. segment place n parts) one

  pub found_here : (d : P) (parts : List P) → segment v.first (length v.own) parts ≡ v.own → (place < length parts) × (get_or parts place d ≡ get_or v.own 0 d)
  found_here d parts is = own_part d place parts v.own (sym (segment_is parts) ∙ is) one

  -- the seat that has the value changes its part alone
  pub gives_part : (u : SeatView P E) (turn : Turn P E) (parts now : List P) (p : P) → u ≡ with_turn v turn 0 → taken_parts u.turn ≡ parts → now ≡ set parts place p
      → ChangesOnlyWithin u.first (length u.own) (taken_parts u.turn) now
  gives_part u turn parts now p is taken changed =
      let at : u.first ≡ place = ap (λ (w : SeatView P E). w.first) is ∙ first in
      let size : length u.own ≡ 1 = ap (λ (w : SeatView P E). length w.own) is ∙ one in
      subst (λ k. ChangesOnlyWithin k (length u.own) (taken_parts u.turn) now) (sym at)
      (subst (λ n. ChangesOnlyWithin place n (taken_parts u.turn) now) (sym size)
      (subst (λ (ps : List P). ChangesOnlyWithin place 1 ps now) (sym taken)
      (subst (λ (ps : List P). ChangesOnlyWithin place 1 parts ps) (sym changed) (changes_one place 1 place parts p (omega arith) (omega arith)))))
