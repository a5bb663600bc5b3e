-- The inverse of a byte, which is its power of 254, by squares.
use Rattle.std.proofs.Common.{◌≡◌, ℕ, zero, suc, ◌*◌, ◌/◌, ◌%◌, ◌<◌, Bool, true, false, cond, eqb, List, [], ◌∷◌, map, bit_xor, get_or, refl, sym, ap, ◌∙◌}
use Rattle.std.proofs.Common.{arith, zero-add}
use Rattle.std.proofs.lemmas.List.FromFn.{get_or-map-range_with_len}
use Rattle.std.proofs.lemmas.Nat.{xor_lt}
use Rattle.std.specs.List.{range_with_len}
use lib.Bits.{xor_self}
use Rattle.aes_core.specs.Field.{xtimes, multiply_powers, multiply, power, inverse}
use Rattle.aes_core.proofs.FieldLemmas.{multiply-xor}

-- the values of a function at all bytes
unfoldable pub all_bytes : (ℕ → ℕ) → List ℕ
all_bytes f = map f (range_with_len 0 256)

pub at_byte : (f g : ℕ → ℕ) → all_bytes f ≡ all_bytes g → (x : ℕ) → x < 256 → f x ≡ g x
unfolding all_bytes
at_byte f g e x h =
    sym (get_or-map-range_with_len f 0 256 x x 0 h (zero-add x)) ∙ ap (λ (l : List ℕ). get_or l x 0) e
    ∙ get_or-map-range_with_len g 0 256 x x 0 h (zero-add x)

xtimes_below : (x : ℕ) → xtimes x < 256
unfolding xtimes
xtimes_below x = xor_lt 8 (x * 2 % 256) (x / 128 % 2 * 0x1b) (omega arith) (omega arith)

chosen_below : (t : Bool) (x : ℕ) → x < 256 → cond t x 0 < 256
chosen_below true x h = h
chosen_below false x h = omega arith

multiply_powers_below : (n a x : ℕ) → x < 256 → multiply_powers n a x < 256
unfolding multiply_powers
multiply_powers_below zero a x h = omega arith
multiply_powers_below (suc n) a x h =
    xor_lt 8 _ (multiply_powers n (a / 2) (xtimes x)) (chosen_below (eqb (a % 2) 1) x h) (multiply_powers_below n (a / 2) (xtimes x) (xtimes_below x))

pub multiply_below : (a x : ℕ) → x < 256 → multiply a x < 256
unfolding multiply
multiply_below a x h = multiply_powers_below 8 a x h

power_below : (b n : ℕ) → power b n < 256
unfolding power
power_below b zero = omega arith
power_below b (suc n) = multiply_below b (power b n) (power_below b n)

-- ---- a function that goes through sums is known by what it makes of the eight bits
-- the sum of the numbers at whose places x has a bit
weigh : List ℕ → ℕ → ℕ
weigh [] x = 0
weigh (v ∷ vs) x = bit_xor (cond (eqb (x % 2) 1) v 0) (weigh vs (x / 2))

unfoldable bits : List ℕ
bits = 1 ∷ 2 ∷ 4 ∷ 8 ∷ 16 ∷ 32 ∷ 64 ∷ 128 ∷ []

itself : ℕ → ℕ
itself x = x

weighed : all_bytes (weigh bits) ≡ all_bytes itself
unfolding all_bytes weigh bits itself
weighed = refl

of_bits : (x : ℕ) → x < 256 → weigh bits x ≡ x
unfolding itself
of_bits x h = at_byte (weigh bits) itself weighed x h

record GoesThroughSums (f : ℕ → ℕ) : Type 0 where
  sums : (x y : ℕ) → f (bit_xor x y) ≡ bit_xor (f x) (f y)

at_none : (f : ℕ → ℕ) → GoesThroughSums f → f 0 ≡ 0
at_none f h = h.sums 0 0 ∙ xor_self (f 0)

at_chosen : (f : ℕ → ℕ) → GoesThroughSums f → (t : Bool) (v : ℕ) → f (cond t v 0) ≡ cond t (f v) 0
at_chosen f h true v = refl
at_chosen f h false v = at_none f h

at_weighed : (f : ℕ → ℕ) → GoesThroughSums f → (vs : List ℕ) (x : ℕ) → f (weigh vs x) ≡ weigh (map f vs) x
unfolding weigh
at_weighed f h [] x = at_none f h
at_weighed f h (v ∷ vs) x =
    let t : Bool = eqb (x % 2) 1 in
    h.sums (cond t v 0) (weigh vs (x / 2)) ∙ ap (λ (z : ℕ). bit_xor z (f (weigh vs (x / 2)))) (at_chosen f h t v)
    ∙ ap (bit_xor (cond t (f v) 0)) (at_weighed f h vs (x / 2))

same_by_bits : (f g : ℕ → ℕ) → GoesThroughSums f → GoesThroughSums g → map f bits ≡ map g bits → (x : ℕ) → x < 256 → f x ≡ g x
same_by_bits f g hf hg e x h =
    ap f (sym (of_bits x h)) ∙ at_weighed f hf bits x ∙ ap (λ (vs : List ℕ). weigh vs x) e ∙ sym (at_weighed g hg bits x) ∙ ap g (of_bits x h)

-- ---- squares
twice : ℕ → ℕ → ℕ
twice b x = multiply b (multiply b x)

unfoldable pub square : ℕ → ℕ
square b = multiply b b

squares_at_bits : map (λ (b : ℕ). map (twice b) bits) (range_with_len 0 256) ≡ map (λ (b : ℕ). map (multiply (square b)) bits) (range_with_len 0 256)
unfolding xtimes multiply_powers multiply twice square bits
squares_at_bits = refl

square_at_bits : (b : ℕ) → b < 256 → map (twice b) bits ≡ map (multiply (square b)) bits
square_at_bits b h =
    let none : List ℕ = [] in
    sym (get_or-map-range_with_len (λ (c : ℕ). map (twice c) bits) 0 256 b b none h (zero-add b))
    ∙ ap (λ (l : List (List ℕ)). get_or l b none) squares_at_bits
    ∙ get_or-map-range_with_len (λ (c : ℕ). map (multiply (square c)) bits) 0 256 b b none h (zero-add b)

-- the product with a byte twice is that with its square
twice-square : (b x : ℕ) → b < 256 → x < 256 → twice b x ≡ multiply (square b) x
unfolding twice
twice-square b x hb hx =
    same_by_bits (λ y. multiply b (multiply b y)) (multiply (square b))
    (record { sums = λ y z. ap (multiply b) (multiply-xor b y z) ∙ multiply-xor b (multiply b y) (multiply b z) })
    (record { sums = multiply-xor (square b) }) (square_at_bits b hb) x hx

square_below : (b : ℕ) → b < 256 → square b < 256
unfolding square
square_below b h = multiply_below b b h

-- an even power is a power of the square
power_even : (b n : ℕ) → b < 256 → power b (2 * n) ≡ power (square b) n
unfolding power twice
power_even b zero h = refl
power_even b (suc n) h =
    let e : 2 * suc n ≡ suc (suc (2 * n)) = omega arith in
    rw e (ap (λ (z : ℕ). multiply b (multiply b z)) (power_even b n h) ∙ twice-square b (power (square b) n) h (power_below (square b) n))

-- the powers of 1, 3, 7, .. by squares
full : ℕ → ℕ
full zero = 1
full (suc k) = suc (2 * full k)

unfoldable pub by_squares : ℕ → ℕ → ℕ
by_squares zero b = multiply b 1
by_squares (suc k) b = multiply b (by_squares k (square b))

power_full : (k b : ℕ) → b < 256 → power b (full k) ≡ by_squares k b
unfolding power full by_squares
power_full zero b h = refl
power_full (suc k) b h = ap (multiply b) (power_even b (full k) h ∙ power_full k (square b) (square_below b h))

-- the inverse: 254 is twice 127
unfoldable pub inverse_by_squares : ℕ → ℕ
inverse_by_squares b = by_squares 6 (square b)

pub inverse-by_squares : (b : ℕ) → b < 256 → inverse b ≡ inverse_by_squares b
unfolding inverse inverse_by_squares full
inverse-by_squares b h = power_even b 127 h ∙ power_full 6 (square b) (square_below b h)
