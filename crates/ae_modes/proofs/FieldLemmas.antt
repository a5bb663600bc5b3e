-- Products in the field of GHASH, four and sixteen bits at a time.
use Rattle.std.proofs.Common.{◌≡◌, ◌⊎◌, inl, inr, ℕ, zero, suc, ◌+◌, ◌*◌, ◌/◌, ◌%◌, ◌^◌, ◌<◌, Bool, true, false, cond, eqb, List, bit_xor, get_or, refl, sym, ap, ◌∙◌, arith, zero-add}
use Rattle.std.proofs.lemmas.Nat.{xor_comm, xor_shr, xor_mod, xor_block, shr-shr, shr_split, mod-pow-add, mod_low, field_of, pow_pos}
use lib.Bits.{xor_assoc, xor_zero_l, xor_zero_r}
use Rattle.aes_core.proofs.FieldLemmas.{four_sums, sum_of-xor}
use Rattle.aes_core.proofs.PowerLemmas.{all_bytes, at_byte}
use Rattle.aes_core.specs.Transformations.{sum_of}
use Rattle.ae_modes.specs.Field.{times_x, sum_of_powers}
use Rattle.ae_modes.specs.Tables.{times_power, IsTable, IsTablesOf}
use Rattle.ae_modes.specs.declared.tables.Tables.{Tables}

-- the middle two of four change places
xor_interchange : (a b c d : ℕ) → bit_xor (bit_xor a b) (bit_xor c d) ≡ bit_xor (bit_xor a c) (bit_xor b d)
xor_interchange a b c d =
    xor_assoc a b (bit_xor c d)
    ∙ ap (bit_xor a) (sym (xor_assoc b c d) ∙ ap (λ (z : ℕ). bit_xor z d) (xor_comm b c) ∙ xor_assoc c b d)
    ∙ sym (xor_assoc a c (bit_xor b d))

bit_cases : (n : ℕ) → n < 2 → (n ≡ 0) ⊎ (n ≡ 1)
bit_cases zero h = inl refl
bit_cases (suc zero) h = inr refl
bit_cases (suc (suc n)) h = absurd (omega arith)

-- ---- sums
reduction-xor : (p q : ℕ) → p < 2 → q < 2 → bit_xor p q * (0xe1 * 2 ^ 120) ≡ bit_xor (p * (0xe1 * 2 ^ 120)) (q * (0xe1 * 2 ^ 120))
reduction-xor p q hp hq = elim (bit_cases p hp) [
  | inl ep ↦ elim (bit_cases q hq) [ inl eq ↦ rw (ep, eq) refl | inr eq ↦ rw (ep, eq) refl ]
  | inr ep ↦ elim (bit_cases q hq) [ inl eq ↦ rw (ep, eq) refl | inr eq ↦ rw (ep, eq) refl ]
]

-- the product by x of a sum
times_x-xor : (a b : ℕ) → times_x (bit_xor a b) ≡ bit_xor (times_x a) (times_x b)
unfolding times_x
times_x-xor a b =
    let half : bit_xor a b / 2 ≡ bit_xor (a / 2) (b / 2) = xor_shr a b 1 in
    let last : bit_xor a b % 2 * (0xe1 * 2 ^ 120) ≡ bit_xor (a % 2 * (0xe1 * 2 ^ 120)) (b % 2 * (0xe1 * 2 ^ 120)) =
    ap (λ (z : ℕ). z * (0xe1 * 2 ^ 120)) (xor_mod a b 1) ∙ reduction-xor (a % 2) (b % 2) (omega arith) (omega arith) in
    rw (half, last) (xor_interchange (a / 2) (b / 2) (a % 2 * (0xe1 * 2 ^ 120)) (b % 2 * (0xe1 * 2 ^ 120)))

times_power-xor : (n a b : ℕ) → times_power n (bit_xor a b) ≡ bit_xor (times_power n a) (times_power n b)
unfolding times_power
times_power-xor zero a b = refl
times_power-xor (suc n) a b = ap (times_power n) (times_x-xor a b) ∙ times_power-xor n (times_x a) (times_x b)

times_power-zero : (n : ℕ) → times_power n 0 ≡ 0
unfolding times_power times_x
times_power-zero zero = refl
times_power-zero (suc n) = times_power-zero n

chosen-times : (t : Bool) (v : ℕ) → cond t (times_x v) 0 ≡ times_x (cond t v 0)
unfolding times_x
chosen-times true v = refl
chosen-times false v = refl

-- the sum for the product by x
sum_of_powers-times : (n a v : ℕ) → sum_of_powers n a (times_x v) ≡ times_x (sum_of_powers n a v)
unfolding sum_of_powers
sum_of_powers-times zero a v = chosen-times false v
sum_of_powers-times (suc n) a v =
    let t : Bool = eqb (a / 2 ^ n % 2) 1 in
    ap (λ (z : ℕ). bit_xor z (sum_of_powers n a (times_x (times_x v)))) (chosen-times t v)
    ∙ ap (bit_xor (times_x (cond t v 0))) (sum_of_powers-times n a (times_x v))
    ∙ sym (times_x-xor (cond t v 0) (sum_of_powers n a (times_x v)))

-- the high n of n + m bits, and the low m of them
pub sum_of_powers-add : (n m a v : ℕ) → sum_of_powers (n + m) a v ≡ bit_xor (sum_of_powers n (a / 2 ^ m) v) (times_power n (sum_of_powers m a v))
unfolding sum_of_powers times_power
sum_of_powers-add zero m a v = ap (λ (k : ℕ). sum_of_powers k a v) (zero-add m) ∙ sym (xor_zero_l (sum_of_powers m a v))
sum_of_powers-add (suc n) m a v =
    let e : suc n + m ≡ suc (n + m) = omega arith in
    let place : a / 2 ^ (n + m) ≡ a / 2 ^ m / 2 ^ n = ap (λ (k : ℕ). a / 2 ^ k) (let c : n + m ≡ m + n = omega arith in c) ∙ sym (shr-shr a m n) in
    ap (λ (k : ℕ). sum_of_powers k a v) e
    ∙ ap (λ (z : ℕ). bit_xor (cond (eqb (z % 2) 1) v 0) (sum_of_powers (n + m) a (times_x v))) place
    ∙ ap (bit_xor (cond (eqb (a / 2 ^ m / 2 ^ n % 2) 1) v 0))
    (sum_of_powers-add n m a (times_x v)
    ∙ ap (λ (z : ℕ). bit_xor (sum_of_powers n (a / 2 ^ m) (times_x v)) (times_power n z)) (sum_of_powers-times m a v))
    ∙ sym (xor_assoc (cond (eqb (a / 2 ^ m / 2 ^ n % 2) 1) v 0) (sum_of_powers n (a / 2 ^ m) (times_x v)) (times_power n (times_x (sum_of_powers m a v))))

-- bits above the n lowest don't count
low_mod : (a n : ℕ) → a % 2 ^ (1 + n) % 2 ^ n ≡ a % 2 ^ n
low_mod a n = ap (λ (z : ℕ). z % 2 ^ n) (mod-pow-add a 1 n) ∙ mod_low (a / 2 ^ n % 2 ^ 1) n (a % 2 ^ n) (omega (arith, pow_pos n))

pub sum_of_powers-low : (n a b v : ℕ) → a % 2 ^ n ≡ b % 2 ^ n → sum_of_powers n a v ≡ sum_of_powers n b v
unfolding sum_of_powers
sum_of_powers-low zero a b v e = refl
sum_of_powers-low (suc n) a b v e =
    let at : suc n ≡ 1 + n = omega arith in
    let same : a % 2 ^ (1 + n) ≡ b % 2 ^ (1 + n) = ap (λ (k : ℕ). a % 2 ^ k) (sym at) ∙ e ∙ ap (λ (k : ℕ). b % 2 ^ k) at in
    let bit : a / 2 ^ n % 2 ≡ b / 2 ^ n % 2 = sym (field_of a 1 n) ∙ ap (λ (z : ℕ). z / 2 ^ n) same ∙ field_of b 1 n in
    let rest : a % 2 ^ n ≡ b % 2 ^ n = sym (low_mod a n) ∙ ap (λ (z : ℕ). z % 2 ^ n) same ∙ low_mod b n in
    rw (bit, sum_of_powers-low n a b (times_x v) rest) refl

sum_of_powers-power : (k n a v : ℕ) → sum_of_powers n a (times_power k v) ≡ times_power k (sum_of_powers n a v)
unfolding times_power
sum_of_powers-power zero n a v = refl
sum_of_powers-power (suc k) n a v = sum_of_powers-power k n a (times_x v) ∙ ap (times_power k) (sum_of_powers-times n a v)

-- ---- the product by x^16
halved : (q : ℕ) → times_x (q * 2) ≡ q
unfolding times_x
halved q =
    let half : q * 2 / 2 ≡ q = omega arith in
    let last : q * 2 % 2 * (0xe1 * 2 ^ 120) ≡ 0 = omega arith in
    rw (half, last) (xor_zero_r q)

byte_up : (q : ℕ) → times_power 8 (q * 2 ^ 8 + 0) ≡ q
unfolding times_power
byte_up q =
    let e : q * 2 ^ 8 + 0 ≡ q * 2 * 2 * 2 * 2 * 2 * 2 * 2 * 2 = omega arith in
    ap (times_power 8) e ∙ rw (
      halved (q * 2 * 2 * 2 * 2 * 2 * 2 * 2),
      halved (q * 2 * 2 * 2 * 2 * 2 * 2),
      halved (q * 2 * 2 * 2 * 2 * 2),
      halved (q * 2 * 2 * 2 * 2),
      halved (q * 2 * 2 * 2),
      halved (q * 2 * 2),
      halved (q * 2),
      halved q,
    ) refl

two_bytes : (v : ℕ) → times_power 16 v ≡ times_power 8 (times_power 8 v)
unfolding times_power
two_bytes v = refl

word_up : (q : ℕ) → times_power 16 (q * 2 ^ 16 + 0) ≡ q
word_up q =
    let e : q * 2 ^ 16 + 0 ≡ (q * 2 ^ 8 + 0) * 2 ^ 8 + 0 = omega arith in
    two_bytes (q * 2 ^ 16 + 0) ∙ ap (λ (z : ℕ). times_power 8 (times_power 8 z)) e
    ∙ ap (times_power 8) (byte_up (q * 2 ^ 8 + 0)) ∙ byte_up q

two_parts : (k v : ℕ) → bit_xor (v / 2 ^ k * 2 ^ k + 0) (v % 2 ^ k) ≡ v
two_parts k v =
    let q : ℕ = v / 2 ^ k in
    let r : ℕ = v % 2 ^ k in
    let none : 0 * 2 ^ k + r ≡ r = omega arith in
    ap (bit_xor (q * 2 ^ k + 0)) (sym none) ∙ xor_block k q 0 0 r (omega (arith, pow_pos k)) (omega (arith, pow_pos k))
    ∙ rw (xor_zero_r q, xor_zero_l r) (shr_split v k)

pub times_word_is : (v r : ℕ) → r ≡ times_power 16 (v % 2 ^ 16) → bit_xor (v / 2 ^ 16) r ≡ times_power 16 v
times_word_is v r e =
    sym (ap (times_power 16) (sym (two_parts 16 v)) ∙ times_power-xor 16 (v / 2 ^ 16 * 2 ^ 16 + 0) (v % 2 ^ 16)
    ∙ rw (word_up (v / 2 ^ 16), e) refl)

-- sixteen bits by x^16, as the code sums them
summed : ℕ → ℕ
summed x = sum_of (x * 2 ^ 112 % 2 ^ 128) (x * 2 ^ 111 % 2 ^ 128) (x * 2 ^ 110 % 2 ^ 128) (x * 2 ^ 105 % 2 ^ 128)

shifted-xor : (k a b : ℕ) → bit_xor a b * 2 ^ k % 2 ^ 128 ≡ bit_xor (a * 2 ^ k % 2 ^ 128) (b * 2 ^ k % 2 ^ 128)
shifted-xor k a b =
    let whole : bit_xor (a * 2 ^ k + 0) (b * 2 ^ k + 0) ≡ bit_xor a b * 2 ^ k + 0 = xor_block k a b 0 0 (pow_pos k) (pow_pos k) in
    let ea : a * 2 ^ k + 0 ≡ a * 2 ^ k = omega arith in
    let eb : b * 2 ^ k + 0 ≡ b * 2 ^ k = omega arith in
    let er : bit_xor a b * 2 ^ k + 0 ≡ bit_xor a b * 2 ^ k = omega arith in
    ap (λ (z : ℕ). z % 2 ^ 128) (sym er ∙ sym whole ∙ rw (ea, eb) refl) ∙ xor_mod (a * 2 ^ k) (b * 2 ^ k) 128

summed-xor : (a b : ℕ) → summed (bit_xor a b) ≡ bit_xor (summed a) (summed b)
unfolding summed
summed-xor a b =
    four_sums _ _ _ _ _ _ _ _ (shifted-xor 112 a b) (shifted-xor 111 a b) (shifted-xor 110 a b) (shifted-xor 105 a b)
    ∙ sum_of-xor (a * 2 ^ 112 % 2 ^ 128) (a * 2 ^ 111 % 2 ^ 128) (a * 2 ^ 110 % 2 ^ 128) (a * 2 ^ 105 % 2 ^ 128)
    (b * 2 ^ 112 % 2 ^ 128) (b * 2 ^ 111 % 2 ^ 128) (b * 2 ^ 110 % 2 ^ 128) (b * 2 ^ 105 % 2 ^ 128)

test_low : all_bytes summed ≡ all_bytes (times_power 16)
unfolding all_bytes times_power times_x summed
test_low = refl

test_high : all_bytes (λ (x : ℕ). summed (x * 2 ^ 8 + 0)) ≡ all_bytes (λ (x : ℕ). times_power 16 (x * 2 ^ 8 + 0))
unfolding all_bytes times_power times_x summed
test_high = refl

summed_is : (x : ℕ) → x < 2 ^ 16 → summed x ≡ times_power 16 x
summed_is x h =
    let high : ℕ = x / 2 ^ 8 * 2 ^ 8 + 0 in
    let low : ℕ = x % 2 ^ 8 in
    let el : summed low ≡ times_power 16 low = at_byte summed (times_power 16) test_low low (omega arith) in
    let eh : summed high ≡ times_power 16 high =
    at_byte (λ (y : ℕ). summed (y * 2 ^ 8 + 0)) (λ (y : ℕ). times_power 16 (y * 2 ^ 8 + 0)) test_high (x / 2 ^ 8) (omega arith) in
    ap summed (sym (two_parts 8 x)) ∙ summed-xor high low ∙ rw (eh, el) (sym (times_power-xor 16 high low))
    ∙ ap (times_power 16) (two_parts 8 x)

pub reduced_is : (x : ℕ) → x < 2 ^ 16
    → sum_of (x * 2 ^ 112 % 2 ^ 128) (x * 2 ^ 111 % 2 ^ 128) (x * 2 ^ 110 % 2 ^ 128) (x * 2 ^ 105 % 2 ^ 128) ≡ times_power 16 x
unfolding summed
reduced_is x h = summed_is x h

-- ---- tables
pub entry_is : (i v second third fourth p q r s : ℕ) → second ≡ times_x v → third ≡ times_x second → fourth ≡ times_x third
    → p ≡ cond (eqb (i / 2 ^ 3 % 2) 1) v 0 → q ≡ cond (eqb (i / 2 ^ 2 % 2) 1) second 0
    → r ≡ cond (eqb (i / 2 ^ 1 % 2) 1) third 0 → s ≡ cond (eqb (i / 2 ^ 0 % 2) 1) fourth 0
    → bit_xor p (bit_xor q (bit_xor r s)) ≡ sum_of_powers 4 i v
unfolding sum_of_powers
entry_is i v second third fourth p q r s e2 e3 e4 ep eq er es =
    rw (ep, eq, er, es ∙ sym (xor_zero_r (cond (eqb (i / 2 ^ 0 % 2) 1) fourth 0)), e4, e3, e2) refl

entry_at : (t : List ℕ) (v i bits : ℕ) → IsTable t v → i ≡ bits % 2 ^ 4 → get_or t i 0 ≡ sum_of_powers 4 bits v
entry_at t v i bits is e =
    let low : i % 2 ^ 4 ≡ bits % 2 ^ 4 = omega arith in
    is.entry_is i (omega arith) ∙ sum_of_powers-low 4 i bits v low

-- the highest four bits, and the others four places further on
four_more : (n bits v : ℕ) → sum_of_powers (4 + n) bits v ≡ bit_xor (sum_of_powers 4 (bits / 2 ^ n) v) (sum_of_powers n bits (times_power 4 v))
four_more n bits v = sum_of_powers-add 4 n bits v ∙ ap (bit_xor (sum_of_powers 4 (bits / 2 ^ n) v)) (sym (sum_of_powers-power 4 n bits v))

pub by_8_is : (h : ℕ) → times_power 4 (times_power 4 h) ≡ times_power 8 h
unfolding times_power
by_8_is h = refl

pub by_12_is : (h : ℕ) → times_power 4 (times_power 8 h) ≡ times_power 12 h
unfolding times_power
by_12_is h = refl

-- the product of the subkey and sixteen bits
pub bits_are : (t : Tables) (h bits i j k l : ℕ) → IsTablesOf t h → i ≡ bits / 2 ^ 12 % 2 ^ 4 → j ≡ bits / 2 ^ 8 % 2 ^ 4 → k ≡ bits / 2 ^ 4 % 2 ^ 4 → l ≡ bits % 2 ^ 4
    → bit_xor (get_or t.first i 0) (bit_xor (get_or t.second j 0) (bit_xor (get_or t.third k 0) (get_or t.fourth l 0))) ≡ sum_of_powers 16 bits h
bits_are t h bits i j k l is ei ej ek el =
    let one : get_or t.first i 0 ≡ sum_of_powers 4 (bits / 2 ^ 12) h = entry_at t.first h i (bits / 2 ^ 12) is.first ei in
    let two : get_or t.second j 0 ≡ sum_of_powers 4 (bits / 2 ^ 8) (times_power 4 h) = entry_at t.second (times_power 4 h) j (bits / 2 ^ 8) is.second ej in
    let three : get_or t.third k 0 ≡ sum_of_powers 4 (bits / 2 ^ 4) (times_power 8 h) = entry_at t.third (times_power 8 h) k (bits / 2 ^ 4) is.third ek in
    let four : get_or t.fourth l 0 ≡ sum_of_powers 4 bits (times_power 12 h) = entry_at t.fourth (times_power 12 h) l bits is.fourth el in
    rw (one, two, three, four)
    (sym (four_more 12 bits h
    ∙ ap (bit_xor (sum_of_powers 4 (bits / 2 ^ 12) h))
    (four_more 8 bits (times_power 4 h)
    ∙ ap (λ (v : ℕ). bit_xor (sum_of_powers 4 (bits / 2 ^ 8) (times_power 4 h)) (sum_of_powers 8 bits v)) (by_8_is h)
    ∙ ap (bit_xor (sum_of_powers 4 (bits / 2 ^ 8) (times_power 4 h)))
    (four_more 4 bits (times_power 8 h)
    ∙ ap (λ (v : ℕ). bit_xor (sum_of_powers 4 (bits / 2 ^ 4) (times_power 8 h)) (sum_of_powers 4 bits v)) (by_12_is h)))))

-- sixteen more bits of a product
pub product_more : (a h k rest sum up bits : ℕ) → rest ≡ a / 2 ^ (16 * k) → sum ≡ sum_of_powers (16 * k) a h → up ≡ times_power 16 sum
    → bits ≡ sum_of_powers 16 (rest % 2 ^ 16) h → bit_xor up bits ≡ sum_of_powers (16 * (k + 1)) a h
product_more a h k rest sum up bits er es eu eb =
    let low : rest % 2 ^ 16 % 2 ^ 16 ≡ rest % 2 ^ 16 = omega arith in
    let count : 16 + 16 * k ≡ 16 * (k + 1) = omega arith in
    xor_comm up bits
    ∙ rw (eb ∙ sum_of_powers-low 16 (rest % 2 ^ 16) rest h low ∙ ap (λ (z : ℕ). sum_of_powers 16 z h) er, eu ∙ ap (times_power 16) es)
    (sym (sum_of_powers-add 16 (16 * k) a h)) ∙ ap (λ (n : ℕ). sum_of_powers n a h) count

pub rest_more : (a rest k : ℕ) → rest ≡ a / 2 ^ (16 * k) → rest / 2 ^ 16 ≡ a / 2 ^ (16 * (k + 1))
rest_more a rest k e =
    let count : 16 * k + 16 ≡ 16 * (k + 1) = omega arith in
    ap (λ (z : ℕ). z / 2 ^ 16) e ∙ shr-shr a (16 * k) 16 ∙ ap (λ (n : ℕ). a / 2 ^ n) count
