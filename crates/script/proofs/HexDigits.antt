-- Hexadecimal digits that are read.
use Rattle.std.proofs.Common.{◌≡◌, ℕ, ◌+◌, ◌*◌, ◌%◌, ◌≤◌, ◌⊎◌, Bool, true, false, cond, ◌&&◌, eqb, leb, List, [], ◌∷◌, length, Option, Some, None, Result, Ok, Err, refl, ap, arith, inl, inr}
use Rattle.std.specs.List.{AllByRecursion}
use Rattle.std.specs.Result.{result_ok}
use Rattle.std.proofs.lemmas.Bool.{and_parts, leb-true, ne_eqb}
use Rattle.std.proofs.lemmas.Option.{none-some}
use Rattle.hex.specs.Hex.{◌>>=◌, decode_of, decode_pairs, digit_or_error, hex_digit_value, pair_value, value_at}
use Rattle.hex.specs.declared.error.FromHexError.{FromHexError}
use Rattle.hex.specs.declared.error.FromHexError.TheVariants.{OddLength}
use Rattle.script.specs.Parameters.{hex_of}
use Rattle.script.proofs.Decimals.{IsPartByte}

-- which way a test went
pub chosen : {X : Type 0} (b : Bool) (x y z : X) → cond b x y ≡ z → ((b ≡ true) × (x ≡ z)) ⊎ ((b ≡ false) × (y ≡ z))
chosen true x y z e = inl (refl, e)
chosen false x y z e = inr (refl, e)

ok_of : {E : Type 0} (r : Result (List ℕ) E) (bytes : List ℕ) → result_ok r ≡ Some bytes → r ≡ Ok bytes
ok_of (Ok x) bytes e = ap Ok cc
ok_of (Err d) bytes e = absurd cc

pub hex_reads : (digits bytes : List ℕ) → hex_of digits ≡ Some bytes → decode_of digits ≡ Ok bytes
hex_reads digits bytes e = ok_of (decode_of digits) bytes e

pub hex_again : (digits bytes : List ℕ) → decode_of digits ≡ Ok bytes → hex_of digits ≡ Some bytes
hex_again digits bytes e = ap result_ok e

bind_ok : {A B : Type 0} (r : Result A FromHexError) (f : A → Result B FromHexError) (y : B) → (r >>= f) ≡ Ok y → (x : A) × (r ≡ Ok x) × (f x ≡ Ok y)
bind_ok (Ok x) f y e = (x, refl, e)
bind_ok (Err d) f y e = absurd cc

between : (low high c : ℕ) → leb low c && leb c high ≡ true → (low ≤ c) × (c ≤ high)
between low high c e = let p = and_parts (leb low c) (leb c high) e in (leb-true low c p.0, leb-true c high p.1)

value_part : (c v : ℕ) → hex_digit_value c ≡ Some v → IsPartByte c
value_part c v e =
    elim (chosen (leb 65 c && leb c 70) _ _ _ e) [
      | inl upper ↦ let p = between 65 70 c upper.0 in ((omega (arith, p.0), omega (arith, p.1)), ne_eqb c 58 (λ h. omega (arith, p.0)))
      | inr f ↦ elim (chosen (leb 97 c && leb c 102) _ _ _ f.1) [
        | inl lower ↦ let p = between 97 102 c lower.0 in ((omega (arith, p.0), omega (arith, p.1)), ne_eqb c 58 (λ h. omega (arith, p.0)))
        | inr g ↦ elim (chosen (leb 48 c && leb c 57) _ _ _ g.1) [
          | inl digit ↦ let p = between 48 57 c digit.0 in ((omega (arith, p.0), omega (arith, p.1)), ne_eqb c 58 (λ h. omega (arith, p.1)))
          | inr none ↦ absurd (none-some v none.1)
        ]
      ]
    ]

digit_of : (c i v : ℕ) (o : Option ℕ) → digit_or_error c i o ≡ Ok v → o ≡ Some v
digit_of c i v (Some w) e = ap Some cc
digit_of c i v None e = absurd cc

pairs_part : (i : ℕ) (digits bytes : List ℕ) → decode_pairs i digits ≡ Ok bytes → AllByRecursion IsPartByte digits
unfolding decode_pairs
pairs_part i [] bytes e = tt
pairs_part i (digit ∷ []) bytes e = absurd cc
pairs_part i (high ∷ low ∷ rest) bytes e =
    let a = bind_ok (pair_value high low i) (λ byte. decode_pairs (i + 2) rest >>= λ others. Ok (byte ∷ others)) bytes e in
    let b = bind_ok (decode_pairs (i + 2) rest) (λ others. Ok (a.0 ∷ others)) bytes a.2 in
    let h = bind_ok (value_at high i) (λ h. value_at low (i + 1) >>= λ l. Ok (h * 16 + l)) a.0 a.1 in
    let l = bind_ok (value_at low (i + 1)) (λ l. Ok (h.0 * 16 + l)) a.0 h.2 in
    (value_part high h.0 (digit_of high i h.0 (hex_digit_value high) h.1), (value_part low l.0 (digit_of low (i + 1) l.0 (hex_digit_value low) l.1), pairs_part (i + 2) rest b.0 b.1))

no_ok : (e : FromHexError) (bytes : List ℕ) → ◌≡◌ {A = Result (List ℕ) FromHexError} (Err e) (Ok bytes) → ⊥
no_ok e bytes h = cc

pub hex_part : (digits bytes : List ℕ) → decode_of digits ≡ Ok bytes → AllByRecursion IsPartByte digits
hex_part digits bytes e =
    elim (chosen (eqb (length digits % 2) 1) (Err OddLength) (decode_pairs 0 digits) (Ok bytes) e) [
      | inl odd ↦ absurd (no_ok OddLength bytes odd.1)
      | inr even ↦ pairs_part 0 digits bytes even.1
    ]
