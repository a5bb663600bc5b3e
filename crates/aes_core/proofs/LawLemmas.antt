-- The inverse cipher undoes the cipher.
use Rattle.std.proofs.Common.{◌≡◌, inl, inr, ℕ, zero, suc, ◌+◌, ◌-◌, ◌*◌, ◌/◌, ◌%◌, ◌^◌, ◌<◌, List, [], ◌∷◌}
use Rattle.std.proofs.Common.{◌++◌, map, bit_xor, length, get_or, slice_index, All, refl, sym, ap, ◌∙◌, arith, zero-add}
use Rattle.std.proofs.lemmas.List.Elements.{All-get_or}
use Rattle.std.proofs.lemmas.List.FromFn.{get_or-map-range_with_len, fill_by_all}
use Rattle.std.proofs.lemmas.Nat.{xor_lt}
use Rattle.std.specs.List.{range_with_len}
use Rattle.std.proofs.lemmas.Bool.{cases_lt}
use Rattle.std.proofs.lemmas.List.{get_or_past}
use lib.Bits.{xor_assoc, xor_self, xor_zero_r}
use Rattle.aes_core.specs.Cipher.{cipher_rounds, cipher_from, cipher, inv_cipher_rounds, inv_cipher_from, inv_cipher}
use Rattle.aes_core.specs.Field.{xtimes, multiply_powers, multiply, substitute, inverse_substitute}
use Rattle.aes_core.specs.KeyExpansion.{round_key, round_key_words, round_count}
use Rattle.aes_core.specs.Transformations.{state_of, sum_of, sub_bytes, shift_rows, mix_column, mix_columns, add_round_key, inv_sub_bytes, inv_shift_rows, inv_mix_column, inv_mix_columns}
use Rattle.aes_core.specs.Words.{word_bytes}
use Rattle.aes_core.proofs.FieldLemmas.{multiply-xor, sum_of-xor, four_columns, four, four_sums}
use Rattle.aes_core.proofs.KeyLemmas.{four_fit}
use Rattle.aes_core.proofs.PowerLemmas.{all_bytes, at_byte, multiply_below}
use Rattle.aes_core.proofs.RoundLemmas.{block_written}
use Rattle.aes_core.proofs.TableEntries.{inverse_substitute-substitute, substitute_below}

-- ---- InvMixColumns undoes MixColumns
-- what a row of the inverse matrix makes of one byte of a column that was mixed, by the byte's row
first_share : ℕ → ℕ → ℕ → ℕ → ℕ → ℕ
first_share i j k l x = sum_of (multiply i (multiply 2 x)) (multiply j x) (multiply k x) (multiply l (multiply 3 x))

second_share : ℕ → ℕ → ℕ → ℕ → ℕ → ℕ
second_share i j k l x = sum_of (multiply i (multiply 3 x)) (multiply j (multiply 2 x)) (multiply k x) (multiply l x)

third_share : ℕ → ℕ → ℕ → ℕ → ℕ → ℕ
third_share i j k l x = sum_of (multiply i x) (multiply j (multiply 3 x)) (multiply k (multiply 2 x)) (multiply l x)

fourth_share : ℕ → ℕ → ℕ → ℕ → ℕ → ℕ
fourth_share i j k l x = sum_of (multiply i x) (multiply j x) (multiply k (multiply 3 x)) (multiply l (multiply 2 x))

same : ℕ → ℕ
same x = x

none : ℕ → ℕ
none x = 0

shares_first : (all_bytes (first_share 14 11 13 9) ≡ all_bytes same) × (all_bytes (second_share 14 11 13 9) ≡ all_bytes none)
    × (all_bytes (third_share 14 11 13 9) ≡ all_bytes none) × (all_bytes (fourth_share 14 11 13 9) ≡ all_bytes none)
unfolding xtimes multiply_powers multiply first_share second_share third_share fourth_share all_bytes same none
shares_first = (refl, refl, refl, refl)

shares_second : (all_bytes (first_share 9 14 11 13) ≡ all_bytes none) × (all_bytes (second_share 9 14 11 13) ≡ all_bytes same)
    × (all_bytes (third_share 9 14 11 13) ≡ all_bytes none) × (all_bytes (fourth_share 9 14 11 13) ≡ all_bytes none)
unfolding xtimes multiply_powers multiply first_share second_share third_share fourth_share all_bytes same none
shares_second = (refl, refl, refl, refl)

shares_third : (all_bytes (first_share 13 9 14 11) ≡ all_bytes none) × (all_bytes (second_share 13 9 14 11) ≡ all_bytes none)
    × (all_bytes (third_share 13 9 14 11) ≡ all_bytes same) × (all_bytes (fourth_share 13 9 14 11) ≡ all_bytes none)
unfolding xtimes multiply_powers multiply first_share second_share third_share fourth_share all_bytes same none
shares_third = (refl, refl, refl, refl)

shares_fourth : (all_bytes (first_share 11 13 9 14) ≡ all_bytes none) × (all_bytes (second_share 11 13 9 14) ≡ all_bytes none)
    × (all_bytes (third_share 11 13 9 14) ≡ all_bytes none) × (all_bytes (fourth_share 11 13 9 14) ≡ all_bytes same)
unfolding xtimes multiply_powers multiply first_share second_share third_share fourth_share all_bytes same none
shares_fourth = (refl, refl, refl, refl)

pub multiply-sum_of : (i a b c d : ℕ) → multiply i (sum_of a b c d) ≡ sum_of (multiply i a) (multiply i b) (multiply i c) (multiply i d)
multiply-sum_of i a b c d =
    multiply-xor i (bit_xor (bit_xor a b) c) d
    ∙ ap (λ (z : ℕ). bit_xor z (multiply i d))
    (multiply-xor i (bit_xor a b) c ∙ ap (λ (z : ℕ). bit_xor z (multiply i c)) (multiply-xor i a b))

-- rows and columns change places
pub transposed : (a b c d e f g h i j k l m n o p : ℕ)
    → sum_of (sum_of a b c d) (sum_of e f g h) (sum_of i j k l) (sum_of m n o p) ≡ sum_of (sum_of a e i m) (sum_of b f j n) (sum_of c g k o) (sum_of d h l p)
transposed a b c d e f g h i j k l m n o p =
    ap (λ (z : ℕ). bit_xor (bit_xor z (sum_of i j k l)) (sum_of m n o p)) (sym (sum_of-xor a b c d e f g h))
    ∙ ap (λ (z : ℕ). bit_xor z (sum_of m n o p)) (sym (sum_of-xor (bit_xor a e) (bit_xor b f) (bit_xor c g) (bit_xor d h) i j k l))
    ∙ sym (sum_of-xor (bit_xor (bit_xor a e) i) (bit_xor (bit_xor b f) j) (bit_xor (bit_xor c g) k) (bit_xor (bit_xor d h) l) m n o p)

-- one row of the inverse matrix at a mixed column, byte by byte
row_of_mixed : (i j k l a b c d : ℕ)
    → sum_of (multiply i (sum_of (multiply 2 a) (multiply 3 b) c d)) (multiply j (sum_of a (multiply 2 b) (multiply 3 c) d))
    (multiply k (sum_of a b (multiply 2 c) (multiply 3 d))) (multiply l (sum_of (multiply 3 a) b c (multiply 2 d)))
    ≡ sum_of (first_share i j k l a) (second_share i j k l b) (third_share i j k l c) (fourth_share i j k l d)
unfolding first_share second_share third_share fourth_share
row_of_mixed i j k l a b c d =
    four_sums _ _ _ _ _ _ _ _ (multiply-sum_of i (multiply 2 a) (multiply 3 b) c d) (multiply-sum_of j a (multiply 2 b) (multiply 3 c) d)
    (multiply-sum_of k a b (multiply 2 c) (multiply 3 d)) (multiply-sum_of l (multiply 3 a) b c (multiply 2 d))
    ∙ transposed (multiply i (multiply 2 a)) (multiply i (multiply 3 b)) (multiply i c) (multiply i d)
    (multiply j a) (multiply j (multiply 2 b)) (multiply j (multiply 3 c)) (multiply j d)
    (multiply k a) (multiply k b) (multiply k (multiply 2 c)) (multiply k (multiply 3 d))
    (multiply l (multiply 3 a)) (multiply l b) (multiply l c) (multiply l (multiply 2 d))

pub zeros_behind : (a : ℕ) → sum_of a 0 0 0 ≡ a
zeros_behind a = xor_zero_r (bit_xor (bit_xor a 0) 0) ∙ xor_zero_r (bit_xor a 0) ∙ xor_zero_r a

-- four bytes through MixColumns and back
unmixed : (a b c d : ℕ) → a < 256 → b < 256 → c < 256 → d < 256
    → inv_mix_column (sum_of (multiply 2 a) (multiply 3 b) c d) (sum_of a (multiply 2 b) (multiply 3 c) d)
    (sum_of a b (multiply 2 c) (multiply 3 d)) (sum_of (multiply 3 a) b c (multiply 2 d))
    ≡ a ∷ b ∷ c ∷ d ∷ []
unfolding inv_mix_column same none
unmixed a b c d fa fb fc fd =
    four _ _ _ _ a b c d
    (row_of_mixed 14 11 13 9 a b c d
    ∙ four_sums _ _ _ _ a 0 0 0 (at_byte (first_share 14 11 13 9) same shares_first.0 a fa) (at_byte (second_share 14 11 13 9) none shares_first.1 b fb)
    (at_byte (third_share 14 11 13 9) none shares_first.2 c fc) (at_byte (fourth_share 14 11 13 9) none shares_first.3 d fd)
    ∙ zeros_behind a)
    (row_of_mixed 9 14 11 13 a b c d
    ∙ four_sums _ _ _ _ 0 b 0 0 (at_byte (first_share 9 14 11 13) none shares_second.0 a fa) (at_byte (second_share 9 14 11 13) same shares_second.1 b fb)
    (at_byte (third_share 9 14 11 13) none shares_second.2 c fc) (at_byte (fourth_share 9 14 11 13) none shares_second.3 d fd)
    ∙ (xor_zero_r (bit_xor b 0) ∙ xor_zero_r b))
    (row_of_mixed 13 9 14 11 a b c d
    ∙ four_sums _ _ _ _ 0 0 c 0 (at_byte (first_share 13 9 14 11) none shares_third.0 a fa) (at_byte (second_share 13 9 14 11) none shares_third.1 b fb)
    (at_byte (third_share 13 9 14 11) same shares_third.2 c fc) (at_byte (fourth_share 13 9 14 11) none shares_third.3 d fd)
    ∙ xor_zero_r c)
    (row_of_mixed 11 13 9 14 a b c d
    ∙ four_sums _ _ _ _ 0 0 0 d (at_byte (first_share 11 13 9 14) none shares_fourth.0 a fa) (at_byte (second_share 11 13 9 14) none shares_fourth.1 b fb)
    (at_byte (third_share 11 13 9 14) none shares_fourth.2 c fc) (at_byte (fourth_share 11 13 9 14) same shares_fourth.3 d fd))

-- ---- states of 16 bytes
pub record AreBytes (s : List ℕ) : Type 0 where
  pub each : (i : ℕ) → get_or s i 0 < 256

pub record IsState (s : List ℕ) : Type 0 where
  pub long : length s ≡ 16
  pub bytes : (i : ℕ) → get_or s i 0 < 256

unmixed_state : (s : List ℕ) → IsState s → inv_mix_columns (mix_columns s) ≡ s
unfolding inv_mix_columns mix_columns mix_column
unmixed_state s h =
    let column : (i j k l : ℕ) → inv_mix_column (sum_of (multiply 2 (slice_index s i)) (multiply 3 (slice_index s j)) (slice_index s k) (slice_index s l))
    (sum_of (slice_index s i) (multiply 2 (slice_index s j)) (multiply 3 (slice_index s k)) (slice_index s l))
    (sum_of (slice_index s i) (slice_index s j) (multiply 2 (slice_index s k)) (multiply 3 (slice_index s l)))
    (sum_of (multiply 3 (slice_index s i)) (slice_index s j) (slice_index s k) (multiply 2 (slice_index s l)))
    ≡ slice_index s i ∷ slice_index s j ∷ slice_index s k ∷ slice_index s l ∷ [] =
    λ i j k l. unmixed (slice_index s i) (slice_index s j) (slice_index s k) (slice_index s l) (h.bytes i) (h.bytes j) (h.bytes k) (h.bytes l) in
    four_columns _ _ _ _ _ _ _ _ (column 0 1 2 3) (column 4 5 6 7) (column 8 9 10 11) (column 12 13 14 15)
    ∙ sym (block_written s h.long)

-- a state whose bytes are given by their places
pub state_of_same : (f : ℕ → ℕ) (s : List ℕ) → length s ≡ 16 → ((i : ℕ) → i < 16 → f i ≡ slice_index s i) → state_of f ≡ s
state_of_same f s long e = sym (fill_by_all f s 16 0 long (λ i h. sym (e i h)))

pub added_twice : (s k : List ℕ) → length s ≡ 16 → add_round_key (add_round_key s k) k ≡ s
unfolding add_round_key
added_twice s k long =
    state_of_same (λ i. bit_xor (slice_index (state_of (λ j. bit_xor (slice_index s j) (slice_index k j))) i) (slice_index k i)) s long
    (λ i h. ap (λ (z : ℕ). bit_xor z (slice_index k i)) (get_or-map-range_with_len (λ j. bit_xor (slice_index s j) (slice_index k j)) 0 16 i i 0 h (zero-add i))
    ∙ xor_assoc (slice_index s i) (slice_index k i) (slice_index k i)
    ∙ ap (bit_xor (slice_index s i)) (xor_self (slice_index k i)) ∙ xor_zero_r (slice_index s i))

shifted_back : (s : List ℕ) → length s ≡ 16 → inv_sub_bytes (inv_shift_rows (shift_rows (sub_bytes s))) ≡ state_of (λ i. inverse_substitute (substitute (slice_index s i)))
unfolding inv_sub_bytes inv_shift_rows shift_rows sub_bytes
shifted_back s long = refl

substituted_back : (s : List ℕ) → IsState s → inv_sub_bytes (inv_shift_rows (shift_rows (sub_bytes s))) ≡ s
substituted_back s h =
    shifted_back s h.long
    ∙ state_of_same (λ i. inverse_substitute (substitute (slice_index s i))) s h.long (λ i below. inverse_substitute-substitute (slice_index s i) (h.bytes i))

-- ---- each transformation gives a state
bytes_of_map : (f : ℕ → ℕ) → ((i : ℕ) → i < 16 → f i < 256) → (i : ℕ) → get_or (state_of f) i 0 < 256
bytes_of_map f h i = elim (cases_lt i 16) [
  | inl lt ↦ rw (get_or-map-range_with_len f 0 16 i i 0 lt (zero-add i)) (h i lt)
  | inr ge ↦ rw (get_or_past (state_of f) i 0 ge) (omega arith)
]

pub bytes-map : (f : ℕ → ℕ) → ((k : ℕ) → f k < 256) → (ks : List ℕ) (i : ℕ) → get_or (map f ks) i 0 < 256
bytes-map f h [] i = omega arith
bytes-map f h (k ∷ ks) zero = h k
bytes-map f h (k ∷ ks) (suc i) = bytes-map f h ks i

joined_bytes : (xs ys : List ℕ) → ((i : ℕ) → get_or xs i 0 < 256) → ((i : ℕ) → get_or ys i 0 < 256) → (i : ℕ) → get_or (xs ++ ys) i 0 < 256
joined_bytes [] ys hx hy i = hy i
joined_bytes (x ∷ xs) ys hx hy zero = hx zero
joined_bytes (x ∷ xs) ys hx hy (suc i) = joined_bytes xs ys (λ k. hx (suc k)) hy i

pub bytes-append : (xs ys : List ℕ) → AreBytes xs → AreBytes ys → AreBytes (xs ++ ys)
bytes-append xs ys hx hy = record { each = joined_bytes xs ys hx.each hy.each }

pub sum_below : (a b c d : ℕ) → a < 256 → b < 256 → c < 256 → d < 256 → sum_of a b c d < 256
sum_below a b c d fa fb fc fd = xor_lt 8 (bit_xor (bit_xor a b) c) d (xor_lt 8 (bit_xor a b) c (xor_lt 8 a b fa fb) fc) fd

mix_column_bytes : (a b c d : ℕ) → a < 256 → b < 256 → c < 256 → d < 256 → AreBytes (mix_column a b c d)
unfolding mix_column
mix_column_bytes a b c d fa fb fc fd =
    record {
      each = four_fit _ _ _ _
          (sum_below (multiply 2 a) (multiply 3 b) c d (multiply_below 2 a fa) (multiply_below 3 b fb) fc fd)
          (sum_below a (multiply 2 b) (multiply 3 c) d fa (multiply_below 2 b fb) (multiply_below 3 c fc) fd)
          (sum_below a b (multiply 2 c) (multiply 3 d) fa fb (multiply_below 2 c fc) (multiply_below 3 d fd))
          (sum_below (multiply 3 a) b c (multiply 2 d) (multiply_below 3 a fa) fb fc (multiply_below 2 d fd));
    }

IsState-shift_rows : (s : List ℕ) → IsState s → IsState (shift_rows s)
unfolding shift_rows
IsState-shift_rows s h = record { long = refl; bytes = bytes-map (slice_index s) h.bytes (0 ∷ 5 ∷ 10 ∷ 15 ∷ 4 ∷ 9 ∷ 14 ∷ 3 ∷ 8 ∷ 13 ∷ 2 ∷ 7 ∷ 12 ∷ 1 ∷ 6 ∷ 11 ∷ []) }

IsState-sub_bytes : (s : List ℕ) → IsState s → IsState (sub_bytes s)
unfolding sub_bytes
IsState-sub_bytes s h =
    record { long = refl; bytes = bytes-map (λ i. substitute (slice_index s i)) (λ i. substitute_below (slice_index s i) (h.bytes i)) (range_with_len 0 16) }

IsState-mix_columns : (s : List ℕ) → IsState s → IsState (mix_columns s)
unfolding mix_columns mix_column
IsState-mix_columns s h =
    let column : (i j k l : ℕ) → AreBytes (mix_column (slice_index s i) (slice_index s j) (slice_index s k) (slice_index s l)) =
    λ i j k l. mix_column_bytes (slice_index s i) (slice_index s j) (slice_index s k) (slice_index s l) (h.bytes i) (h.bytes j) (h.bytes k) (h.bytes l) in
    record { long = refl; bytes = (bytes-append _ _ (column 0 1 2 3) (bytes-append _ _ (column 4 5 6 7) (bytes-append _ _ (column 8 9 10 11) (column 12 13 14 15)))).each }

pub IsState-add_round_key : (s k : List ℕ) → AreBytes s → AreBytes k → IsState (add_round_key s k)
unfolding add_round_key
IsState-add_round_key s k hs hk =
    record { long = refl; bytes = bytes-map (λ i. bit_xor (slice_index s i) (slice_index k i)) (λ i. xor_lt 8 (slice_index s i) (slice_index k i) (hs.each i) (hk.each i)) (range_with_len 0 16) }

word_bytes_fit : (x : ℕ) → AreBytes (word_bytes x)
unfolding word_bytes
word_bytes_fit x = record { each = four_fit (x / 2 ^ 24 % 256) (x / 2 ^ 16 % 256) (x / 2 ^ 8 % 256) (x % 256) (omega arith) (omega arith) (omega arith) (omega arith) }

pub round_key_bytes : (w : List ℕ) (i : ℕ) → AreBytes (round_key w i)
unfolding round_key
round_key_bytes w i =
    bytes-append _ _ (word_bytes_fit (slice_index w (4 * i)))
    (bytes-append _ _ (word_bytes_fit (slice_index w (4 * i + 1)))
    (bytes-append _ _ (word_bytes_fit (slice_index w (4 * i + 2))) (word_bytes_fit (slice_index w (4 * i + 3)))))

pub bytes_of_state : (s : List ℕ) → IsState s → AreBytes s
bytes_of_state s h = record { each = h.bytes }

pub IsState-cipher_rounds : (w b : List ℕ) (n : ℕ) → IsState b → IsState (cipher_rounds w b n)
unfolding cipher_rounds
IsState-cipher_rounds w b zero h = IsState-add_round_key b (round_key w 0) (bytes_of_state b h) (round_key_bytes w 0)
IsState-cipher_rounds w b (suc n) h =
    let s : List ℕ = mix_columns (shift_rows (sub_bytes (cipher_rounds w b n))) in
    IsState-add_round_key s (round_key w (suc n))
    (bytes_of_state s (IsState-mix_columns _ (IsState-shift_rows _ (IsState-sub_bytes _ (IsState-cipher_rounds w b n h)))))
    (round_key_bytes w (suc n))

one_round_back : (w b : List ℕ) (m : ℕ) → length (mix_columns (shift_rows (sub_bytes (cipher_rounds w b m)))) ≡ 16
    → add_round_key (cipher_rounds w b (suc m)) (round_key w (suc m)) ≡ mix_columns (shift_rows (sub_bytes (cipher_rounds w b m)))
unfolding cipher_rounds
one_round_back w b m long = added_twice (mix_columns (shift_rows (sub_bytes (cipher_rounds w b m)))) (round_key w (suc m)) long

-- a block that was encrypted
pub IsState-cipher : (key b : List ℕ) → IsState b → IsState (cipher key b)
unfolding cipher cipher_from
IsState-cipher key b h =
    let w : List ℕ = round_key_words key in
    let r : ℕ = round_count key in
    let s : List ℕ = shift_rows (sub_bytes (cipher_rounds w b (r - 1))) in
    IsState-add_round_key s (round_key w r)
    (bytes_of_state s (IsState-shift_rows _ (IsState-sub_bytes _ (IsState-cipher_rounds w b (r - 1) h)))) (round_key_bytes w r)

-- ---- the inverse rounds go back through the rounds
rounds_back : (w b : List ℕ) (r n : ℕ) → n < r → IsState b
    → inv_cipher_rounds w r (cipher_from w r b) n ≡ shift_rows (sub_bytes (cipher_rounds w b (r - 1 - n)))
unfolding inv_cipher_rounds cipher_from
rounds_back w b r zero h hb =
    let s : List ℕ = shift_rows (sub_bytes (cipher_rounds w b (r - 1))) in
    let state : IsState s = IsState-shift_rows _ (IsState-sub_bytes _ (IsState-cipher_rounds w b (r - 1) hb)) in
    let e : r - 1 - 0 ≡ r - 1 = omega arith in
    rw e (added_twice s (round_key w r) state.long)
rounds_back w b r (suc n) h hb =
    let m : ℕ = r - 1 - suc n in
    let here : r - 1 - n ≡ suc m = omega arith in
    let key : r - suc n ≡ suc m = omega arith in
    let before : List ℕ = shift_rows (sub_bytes (cipher_rounds w b m)) in
    let state : IsState before = IsState-shift_rows _ (IsState-sub_bytes _ (IsState-cipher_rounds w b m hb)) in
    let mixed : IsState (mix_columns before) = IsState-mix_columns before state in
    ap (λ (z : List ℕ). inv_mix_columns (add_round_key (inv_sub_bytes (inv_shift_rows z)) (round_key w (r - suc n)))) (rounds_back w b r n (omega arith) hb)
    ∙ ap (λ (z : List ℕ). inv_mix_columns (add_round_key z (round_key w (r - suc n)))) (substituted_back (cipher_rounds w b (r - 1 - n)) (IsState-cipher_rounds w b (r - 1 - n) hb))
    ∙ rw (here, key) (ap inv_mix_columns (one_round_back w b m mixed.long)) ∙ unmixed_state before state

-- the inverse cipher undoes the cipher
pub inv_cipher-cipher : (key b : List ℕ) → IsState b → inv_cipher key (cipher key b) ≡ b
unfolding cipher inv_cipher inv_cipher_from cipher_rounds
inv_cipher-cipher key b h =
    let w : List ℕ = round_key_words key in
    let r : ℕ = round_count key in
    let first : r - 1 - (r - 1) ≡ 0 = omega arith in
    ap (λ (z : List ℕ). add_round_key (inv_sub_bytes (inv_shift_rows z)) (round_key w 0)) (rounds_back w b r (r - 1) (omega arith) h)
    ∙ rw first (ap (λ (z : List ℕ). add_round_key z (round_key w 0)) (substituted_back (cipher_rounds w b 0) (IsState-cipher_rounds w b 0 h))
    ∙ added_twice b (round_key w 0) h.long)

pub undone : (key b : List ℕ) → length b ≡ 16 → All (λ x. x < 256) b → inv_cipher key (cipher key b) ≡ b
undone key b long all =
    inv_cipher-cipher key b (record {
      long = long;
      bytes = λ i. elim (cases_lt i (length b)) [
        | inl lt ↦ All-get_or (λ x. x < 256) b i 0 lt all
        | inr ge ↦ rw (get_or_past b i 0 ge) (omega arith)
      ];
    })
