-- Multiplication goes through sums, and InvMixColumns undoes MixColumns.
use Rattle.std.proofs.Common.{◌≡◌, ◌⊎◌, inl, inr, ℕ, zero, suc, ◌+◌, ◌*◌, ◌/◌, ◌%◌, ◌^◌, ◌<◌, Bool, true, false, cond, eqb, List, [], ◌∷◌, ◌++◌, bit_xor, get_or, refl, sym, ap, ◌∙◌, arith}
use Rattle.std.proofs.lemmas.Nat.{xor_comm, xor_shr, xor_mod, xor_block}
use lib.Bits.{xor_assoc}
use Rattle.aes_core.specs.Field.{xtimes, multiply_powers, multiply}
use Rattle.aes_core.specs.Transformations.{sum_of, add_round_key, inv_mix_column, inv_mix_columns}
use Rattle.aes_core.specs.Words.{add_columns}

-- the middle two of four change places
xor_interchange : (a b c d : ℕ) → bit_xor (bit_xor a b) (bit_xor c d) ≡ bit_xor (bit_xor a c) (bit_xor b d)
xor_interchange a b c d =
    xor_assoc a b (bit_xor c d)
    ∙ ap (bit_xor a) (sym (xor_assoc b c d) ∙ ap (λ (z : ℕ). bit_xor z d) (xor_comm b c) ∙ xor_assoc c b d)
    ∙ sym (xor_assoc a c (bit_xor b d))

double-xor : (x y : ℕ) → bit_xor x y * 2 % 256 ≡ bit_xor (x * 2 % 256) (y * 2 % 256)
double-xor x y =
    let whole : bit_xor (x * 2 ^ 1 + 0) (y * 2 ^ 1 + 0) ≡ bit_xor x y * 2 ^ 1 + 0 = xor_block 1 x y 0 0 (omega arith) (omega arith) in
    let ex : x * 2 ^ 1 + 0 ≡ x * 2 = omega arith in
    let ey : y * 2 ^ 1 + 0 ≡ y * 2 = omega arith in
    let er : bit_xor x y * 2 ^ 1 + 0 ≡ bit_xor x y * 2 = omega arith in
    ap (λ (z : ℕ). z % 2 ^ 8) (sym er ∙ sym whole ∙ rw (ex, ey) refl) ∙ xor_mod (x * 2) (y * 2) 8

top-xor : (x y : ℕ) → bit_xor x y / 128 % 2 ≡ bit_xor (x / 128 % 2) (y / 128 % 2)
top-xor x y = ap (λ (z : ℕ). z % 2 ^ 1) (xor_shr x y 7) ∙ xor_mod (x / 2 ^ 7) (y / 2 ^ 7) 1

bit_cases : (n : ℕ) → n < 2 → (n ≡ 0) ⊎ (n ≡ 1)
bit_cases zero h = inl refl
bit_cases (suc zero) h = inr refl
bit_cases (suc (suc n)) h = absurd (omega arith)

times-xor : (p q : ℕ) → p < 2 → q < 2 → bit_xor p q * 0x1b ≡ bit_xor (p * 0x1b) (q * 0x1b)
times-xor p q hp hq = elim (bit_cases p hp) [
  | inl ep ↦ elim (bit_cases q hq) [ inl eq ↦ rw (ep, eq) refl | inr eq ↦ rw (ep, eq) refl ]
  | inr ep ↦ elim (bit_cases q hq) [ inl eq ↦ rw (ep, eq) refl | inr eq ↦ rw (ep, eq) refl ]
]

xtimes-xor : (x y : ℕ) → xtimes (bit_xor x y) ≡ bit_xor (xtimes x) (xtimes y)
unfolding xtimes
xtimes-xor x y =
    let low : bit_xor x y * 2 % 256 ≡ bit_xor (x * 2 % 256) (y * 2 % 256) = double-xor x y in
    let high : bit_xor x y / 128 % 2 * 0x1b ≡ bit_xor (x / 128 % 2 * 0x1b) (y / 128 % 2 * 0x1b) =
    ap (λ (z : ℕ). z * 0x1b) (top-xor x y) ∙ times-xor (x / 128 % 2) (y / 128 % 2) (omega arith) (omega arith) in
    rw (low, high) (xor_interchange (x * 2 % 256) (y * 2 % 256) (x / 128 % 2 * 0x1b) (y / 128 % 2 * 0x1b))

chosen-xor : (t : Bool) (x y : ℕ) → cond t (bit_xor x y) 0 ≡ bit_xor (cond t x 0) (cond t y 0)
chosen-xor true x y = refl
chosen-xor false x y = refl

multiply_powers-xor : (n a x y : ℕ) → multiply_powers n a (bit_xor x y) ≡ bit_xor (multiply_powers n a x) (multiply_powers n a y)
unfolding multiply_powers
multiply_powers-xor zero a x y = refl
multiply_powers-xor (suc n) a x y =
    let t : Bool = eqb (a % 2) 1 in
    let rest : multiply_powers n (a / 2) (xtimes (bit_xor x y)) ≡ bit_xor (multiply_powers n (a / 2) (xtimes x)) (multiply_powers n (a / 2) (xtimes y)) =
    ap (multiply_powers n (a / 2)) (xtimes-xor x y) ∙ multiply_powers-xor n (a / 2) (xtimes x) (xtimes y) in
    ap (λ (z : ℕ). bit_xor z (multiply_powers n (a / 2) (xtimes (bit_xor x y)))) (chosen-xor t x y)
    ∙ ap (bit_xor (bit_xor (cond t x 0) (cond t y 0))) rest
    ∙ xor_interchange (cond t x 0) (cond t y 0) (multiply_powers n (a / 2) (xtimes x)) (multiply_powers n (a / 2) (xtimes y))

-- a product with a sum
pub multiply-xor : (a x y : ℕ) → multiply a (bit_xor x y) ≡ bit_xor (multiply a x) (multiply a y)
unfolding multiply
multiply-xor a x y = multiply_powers-xor 8 a x y

pub four_sums : (a b c d p q r s : ℕ) → a ≡ p → b ≡ q → c ≡ r → d ≡ s → sum_of a b c d ≡ sum_of p q r s
four_sums a b c d p q r s ea eb ec ed = rw (ea, eb, ec, ed) refl

pub sum_of-xor : (a b c d p q r s : ℕ) → sum_of (bit_xor a p) (bit_xor b q) (bit_xor c r) (bit_xor d s) ≡ bit_xor (sum_of a b c d) (sum_of p q r s)
sum_of-xor a b c d p q r s =
    let two : bit_xor (bit_xor a p) (bit_xor b q) ≡ bit_xor (bit_xor a b) (bit_xor p q) = xor_interchange a p b q in
    let three : bit_xor (bit_xor (bit_xor a b) (bit_xor p q)) (bit_xor c r) ≡ bit_xor (bit_xor (bit_xor a b) c) (bit_xor (bit_xor p q) r) =
    xor_interchange (bit_xor a b) (bit_xor p q) c r in
    ap (λ (z : ℕ). bit_xor (bit_xor z (bit_xor c r)) (bit_xor d s)) two ∙ ap (λ (z : ℕ). bit_xor z (bit_xor d s)) three
    ∙ xor_interchange (bit_xor (bit_xor a b) c) (bit_xor (bit_xor p q) r) d s

-- one row of a matrix at a sum of columns
row-xor : (i j k l a b c d p q r s : ℕ)
    → sum_of (multiply i (bit_xor a p)) (multiply j (bit_xor b q)) (multiply k (bit_xor c r)) (multiply l (bit_xor d s))
    ≡ bit_xor (sum_of (multiply i a) (multiply j b) (multiply k c) (multiply l d)) (sum_of (multiply i p) (multiply j q) (multiply k r) (multiply l s))
row-xor i j k l a b c d p q r s =
    four_sums _ _ _ _ _ _ _ _ (multiply-xor i a p) (multiply-xor j b q) (multiply-xor k c r) (multiply-xor l d s)
    ∙ sum_of-xor (multiply i a) (multiply j b) (multiply k c) (multiply l d) (multiply i p) (multiply j q) (multiply k r) (multiply l s)

pub four : (a b c d p q r s : ℕ) → a ≡ p → b ≡ q → c ≡ r → d ≡ s → a ∷ b ∷ c ∷ d ∷ [] ≡ p ∷ q ∷ r ∷ s ∷ []
four a b c d p q r s ea eb ec ed = cc

inv_mix_column-xor : (a b c d p q r s : ℕ)
    → inv_mix_column (bit_xor a p) (bit_xor b q) (bit_xor c r) (bit_xor d s) ≡ add_columns (inv_mix_column a b c d) (inv_mix_column p q r s)
unfolding inv_mix_column
inv_mix_column-xor a b c d p q r s =
    four _ _ _ _ _ _ _ _ (row-xor 14 11 13 9 a b c d p q r s) (row-xor 9 14 11 13 a b c d p q r s) (row-xor 13 9 14 11 a b c d p q r s) (row-xor 11 13 9 14 a b c d p q r s)

pub four_columns : (a b c d p q r s : List ℕ) → a ≡ p → b ≡ q → c ≡ r → d ≡ s → a ++ (b ++ (c ++ d)) ≡ p ++ (q ++ (r ++ s))
four_columns a b c d p q r s ea eb ec ed = rw (ea, eb, ec, ed) refl

-- InvMixColumns of a sum
pub inv_mix_columns-add : (x k : List ℕ) → inv_mix_columns (add_round_key x k) ≡ add_round_key (inv_mix_columns x) (inv_mix_columns k)
unfolding inv_mix_columns inv_mix_column add_round_key
inv_mix_columns-add x k =
    let at : (l : List ℕ) (i : ℕ) → ℕ = λ l i. get_or l i 0 in
    let column : (i j m n : ℕ) → inv_mix_column (bit_xor (at x i) (at k i)) (bit_xor (at x j) (at k j)) (bit_xor (at x m) (at k m)) (bit_xor (at x n) (at k n))
    ≡ add_columns (inv_mix_column (at x i) (at x j) (at x m) (at x n)) (inv_mix_column (at k i) (at k j) (at k m) (at k n)) =
    λ i j m n. inv_mix_column-xor (at x i) (at x j) (at x m) (at x n) (at k i) (at k j) (at k m) (at k n) in
    four_columns _ _ _ _ _ _ _ _ (column 0 1 2 3) (column 4 5 6 7) (column 8 9 10 11) (column 12 13 14 15)
