-- The cipher undoes the inverse cipher.
use Rattle.std.proofs.Common.{◌≡◌, inl, inr, ℕ, zero, suc, ◌-◌, ◌<◌, List, [], ◌∷◌, bit_xor, length, slice_index, All, refl, sym, ap, ◌∙◌, arith}
use Rattle.std.specs.List.{range_with_len}
use Rattle.std.proofs.lemmas.List.Elements.{All-get_or}
use Rattle.std.proofs.lemmas.Bool.{cases_lt}
use Rattle.std.proofs.lemmas.List.{get_or_past}
use lib.Bits.{xor_zero_r}
use Rattle.aes_core.specs.Cipher.{cipher_rounds, cipher_from, cipher, inv_cipher_rounds, inv_cipher_from, inv_cipher}
use Rattle.aes_core.specs.Field.{xtimes, multiply_powers, multiply, substitute, inverse_substitute}
use Rattle.aes_core.specs.KeyExpansion.{round_key, round_key_words, round_count}
use Rattle.aes_core.specs.Transformations.{state_of, sum_of, sub_bytes, shift_rows, mix_column, mix_columns, add_round_key, inv_sub_bytes, inv_shift_rows, inv_mix_column, inv_mix_columns}
use Rattle.aes_core.proofs.FieldLemmas.{four_columns, four, four_sums}
use Rattle.aes_core.proofs.KeyLemmas.{four_fit}
use Rattle.aes_core.proofs.RoundLemmas.{block_written}
use Rattle.aes_core.proofs.TableEntries.{substitute-inverse_substitute, inverse_substitute_below}
use Rattle.aes_core.proofs.LawLemmas.{AreBytes, IsState, multiply-sum_of, transposed, zeros_behind, bytes-map, bytes-append}
use Rattle.aes_core.proofs.LawLemmas.{sum_below, IsState-add_round_key, round_key_bytes, bytes_of_state, state_of_same, added_twice}
use Rattle.aes_core.proofs.PowerLemmas.{all_bytes, at_byte, multiply_below}

-- ---- MixColumns undoes InvMixColumns
-- a row of the matrix takes each byte of a column to a product, or leaves it; either goes over sums
abbrev bare : ℕ → ℕ
bare x = x

abbrev nothing : ℕ → ℕ
nothing x = 0

abbrev GoesOverSums : (ℕ → ℕ) → Type 0
GoesOverSums f = (a b c d : ℕ) → f (sum_of a b c d) ≡ sum_of (f a) (f b) (f c) (f d)

bare_over : GoesOverSums bare
bare_over a b c d = refl

-- what such a row makes of one byte of a column that went through the inverse matrix, by the byte's row
module _ (p q r s : ℕ → ℕ) where
  unfoldable first_share : ℕ → ℕ
  first_share x = sum_of (p (multiply 14 x)) (q (multiply 9 x)) (r (multiply 13 x)) (s (multiply 11 x))

  unfoldable second_share : ℕ → ℕ
  second_share x = sum_of (p (multiply 11 x)) (q (multiply 14 x)) (r (multiply 9 x)) (s (multiply 13 x))

  unfoldable third_share : ℕ → ℕ
  third_share x = sum_of (p (multiply 13 x)) (q (multiply 11 x)) (r (multiply 14 x)) (s (multiply 9 x))

  unfoldable fourth_share : ℕ → ℕ
  fourth_share x = sum_of (p (multiply 9 x)) (q (multiply 13 x)) (r (multiply 11 x)) (s (multiply 14 x))

  -- one row at such a column, byte by byte
  row_of_unmixed : GoesOverSums p → GoesOverSums q → GoesOverSums r → GoesOverSums s → (a b c d : ℕ)
      → sum_of (p (sum_of (multiply 14 a) (multiply 11 b) (multiply 13 c) (multiply 9 d))) (q (sum_of (multiply 9 a) (multiply 14 b) (multiply 11 c) (multiply 13 d)))
      (r (sum_of (multiply 13 a) (multiply 9 b) (multiply 14 c) (multiply 11 d))) (s (sum_of (multiply 11 a) (multiply 13 b) (multiply 9 c) (multiply 14 d)))
      ≡ sum_of (first_share a) (second_share b) (third_share c) (fourth_share d)
  unfolding first_share second_share third_share fourth_share
  row_of_unmixed over_p over_q over_r over_s a b c d =
      four_sums _ _ _ _ _ _ _ _ (over_p (multiply 14 a) (multiply 11 b) (multiply 13 c) (multiply 9 d)) (over_q (multiply 9 a) (multiply 14 b) (multiply 11 c) (multiply 13 d))
      (over_r (multiply 13 a) (multiply 9 b) (multiply 14 c) (multiply 11 d)) (over_s (multiply 11 a) (multiply 13 b) (multiply 9 c) (multiply 14 d))
      ∙ transposed (p (multiply 14 a)) (p (multiply 11 b)) (p (multiply 13 c)) (p (multiply 9 d))
      (q (multiply 9 a)) (q (multiply 14 b)) (q (multiply 11 c)) (q (multiply 13 d))
      (r (multiply 13 a)) (r (multiply 9 b)) (r (multiply 14 c)) (r (multiply 11 d))
      (s (multiply 11 a)) (s (multiply 13 b)) (s (multiply 9 c)) (s (multiply 14 d))

row_first : (all_bytes (first_share (multiply 2) (multiply 3) bare bare) ≡ all_bytes bare) × (all_bytes (second_share (multiply 2) (multiply 3) bare bare) ≡ all_bytes nothing)
    × (all_bytes (third_share (multiply 2) (multiply 3) bare bare) ≡ all_bytes nothing) × (all_bytes (fourth_share (multiply 2) (multiply 3) bare bare) ≡ all_bytes nothing)
unfolding xtimes multiply_powers multiply first_share second_share third_share fourth_share all_bytes
row_first = (refl, refl, refl, refl)

row_second : (all_bytes (first_share bare (multiply 2) (multiply 3) bare) ≡ all_bytes nothing) × (all_bytes (second_share bare (multiply 2) (multiply 3) bare) ≡ all_bytes bare)
    × (all_bytes (third_share bare (multiply 2) (multiply 3) bare) ≡ all_bytes nothing) × (all_bytes (fourth_share bare (multiply 2) (multiply 3) bare) ≡ all_bytes nothing)
unfolding xtimes multiply_powers multiply first_share second_share third_share fourth_share all_bytes
row_second = (refl, refl, refl, refl)

row_third : (all_bytes (first_share bare bare (multiply 2) (multiply 3)) ≡ all_bytes nothing) × (all_bytes (second_share bare bare (multiply 2) (multiply 3)) ≡ all_bytes nothing)
    × (all_bytes (third_share bare bare (multiply 2) (multiply 3)) ≡ all_bytes bare) × (all_bytes (fourth_share bare bare (multiply 2) (multiply 3)) ≡ all_bytes nothing)
unfolding xtimes multiply_powers multiply first_share second_share third_share fourth_share all_bytes
row_third = (refl, refl, refl, refl)

row_fourth : (all_bytes (first_share (multiply 3) bare bare (multiply 2)) ≡ all_bytes nothing) × (all_bytes (second_share (multiply 3) bare bare (multiply 2)) ≡ all_bytes nothing)
    × (all_bytes (third_share (multiply 3) bare bare (multiply 2)) ≡ all_bytes nothing) × (all_bytes (fourth_share (multiply 3) bare bare (multiply 2)) ≡ all_bytes bare)
unfolding xtimes multiply_powers multiply first_share second_share third_share fourth_share all_bytes
row_fourth = (refl, refl, refl, refl)

-- four bytes through InvMixColumns and back
remixed : (a b c d : ℕ) → a < 256 → b < 256 → c < 256 → d < 256
    → mix_column (sum_of (multiply 14 a) (multiply 11 b) (multiply 13 c) (multiply 9 d)) (sum_of (multiply 9 a) (multiply 14 b) (multiply 11 c) (multiply 13 d))
    (sum_of (multiply 13 a) (multiply 9 b) (multiply 14 c) (multiply 11 d)) (sum_of (multiply 11 a) (multiply 13 b) (multiply 9 c) (multiply 14 d))
    ≡ a ∷ b ∷ c ∷ d ∷ []
unfolding mix_column
remixed a b c d fa fb fc fd =
    four _ _ _ _ a b c d
    (row_of_unmixed (multiply 2) (multiply 3) bare bare (multiply-sum_of 2) (multiply-sum_of 3) bare_over bare_over a b c d
    ∙ four_sums _ _ _ _ a 0 0 0 (at_byte (first_share (multiply 2) (multiply 3) bare bare) bare row_first.0 a fa) (at_byte (second_share (multiply 2) (multiply 3) bare bare) nothing row_first.1 b fb)
    (at_byte (third_share (multiply 2) (multiply 3) bare bare) nothing row_first.2 c fc) (at_byte (fourth_share (multiply 2) (multiply 3) bare bare) nothing row_first.3 d fd)
    ∙ (zeros_behind a))
    (row_of_unmixed bare (multiply 2) (multiply 3) bare bare_over (multiply-sum_of 2) (multiply-sum_of 3) bare_over a b c d
    ∙ four_sums _ _ _ _ 0 b 0 0 (at_byte (first_share bare (multiply 2) (multiply 3) bare) nothing row_second.0 a fa)
    (at_byte (second_share bare (multiply 2) (multiply 3) bare) bare row_second.1 b fb)
    (at_byte (third_share bare (multiply 2) (multiply 3) bare) nothing row_second.2 c fc) (at_byte (fourth_share bare (multiply 2) (multiply 3) bare) nothing row_second.3 d fd)
    ∙ (xor_zero_r (bit_xor b 0) ∙ xor_zero_r b))
    (row_of_unmixed bare bare (multiply 2) (multiply 3) bare_over bare_over (multiply-sum_of 2) (multiply-sum_of 3) a b c d
    ∙ four_sums _ _ _ _ 0 0 c 0 (at_byte (first_share bare bare (multiply 2) (multiply 3)) nothing row_third.0 a fa)
    (at_byte (second_share bare bare (multiply 2) (multiply 3)) nothing row_third.1 b fb)
    (at_byte (third_share bare bare (multiply 2) (multiply 3)) bare row_third.2 c fc) (at_byte (fourth_share bare bare (multiply 2) (multiply 3)) nothing row_third.3 d fd)
    ∙ (xor_zero_r c))
    (row_of_unmixed (multiply 3) bare bare (multiply 2) (multiply-sum_of 3) bare_over bare_over (multiply-sum_of 2) a b c d
    ∙ four_sums _ _ _ _ 0 0 0 d (at_byte (first_share (multiply 3) bare bare (multiply 2)) nothing row_fourth.0 a fa)
    (at_byte (second_share (multiply 3) bare bare (multiply 2)) nothing row_fourth.1 b fb)
    (at_byte (third_share (multiply 3) bare bare (multiply 2)) nothing row_fourth.2 c fc) (at_byte (fourth_share (multiply 3) bare bare (multiply 2)) bare row_fourth.3 d fd))

remixed_state : (s : List ℕ) → IsState s → mix_columns (inv_mix_columns s) ≡ s
unfolding inv_mix_columns mix_columns inv_mix_column
remixed_state s h =
    let column : (i j k l : ℕ) → mix_column
    (sum_of (multiply 14 (slice_index s i)) (multiply 11 (slice_index s j)) (multiply 13 (slice_index s k)) (multiply 9 (slice_index s l)))
    (sum_of (multiply 9 (slice_index s i)) (multiply 14 (slice_index s j)) (multiply 11 (slice_index s k)) (multiply 13 (slice_index s l)))
    (sum_of (multiply 13 (slice_index s i)) (multiply 9 (slice_index s j)) (multiply 14 (slice_index s k)) (multiply 11 (slice_index s l)))
    (sum_of (multiply 11 (slice_index s i)) (multiply 13 (slice_index s j)) (multiply 9 (slice_index s k)) (multiply 14 (slice_index s l)))
    ≡ slice_index s i ∷ slice_index s j ∷ slice_index s k ∷ slice_index s l ∷ [] =
    λ i j k l. remixed (slice_index s i) (slice_index s j) (slice_index s k) (slice_index s l) (h.bytes i) (h.bytes j) (h.bytes k) (h.bytes l) in
    four_columns _ _ _ _ _ _ _ _ (column 0 1 2 3) (column 4 5 6 7) (column 8 9 10 11) (column 12 13 14 15)
    ∙ sym (block_written s h.long)

-- ---- the bytes
shifted_again : (s : List ℕ) → shift_rows (sub_bytes (inv_sub_bytes (inv_shift_rows s))) ≡ state_of (λ i. substitute (inverse_substitute (slice_index s i)))
unfolding inv_sub_bytes inv_shift_rows shift_rows sub_bytes
shifted_again s = refl

substituted_again : (s : List ℕ) → IsState s → shift_rows (sub_bytes (inv_sub_bytes (inv_shift_rows s))) ≡ s
substituted_again s h =
    shifted_again s
    ∙ state_of_same (λ i. substitute (inverse_substitute (slice_index s i))) s h.long (λ i below. substitute-inverse_substitute (slice_index s i) (h.bytes i))

-- ---- each inverse transformation gives a state
inv_mix_column_bytes : (a b c d : ℕ) → a < 256 → b < 256 → c < 256 → d < 256 → AreBytes (inv_mix_column a b c d)
unfolding inv_mix_column
inv_mix_column_bytes a b c d fa fb fc fd =
    record {
      each = four_fit _ _ _ _
          (sum_below (multiply 14 a) (multiply 11 b) (multiply 13 c) (multiply 9 d) (multiply_below 14 a fa) (multiply_below 11 b fb) (multiply_below 13 c fc) (multiply_below 9 d fd))
          (sum_below (multiply 9 a) (multiply 14 b) (multiply 11 c) (multiply 13 d) (multiply_below 9 a fa) (multiply_below 14 b fb) (multiply_below 11 c fc) (multiply_below 13 d fd))
          (sum_below (multiply 13 a) (multiply 9 b) (multiply 14 c) (multiply 11 d) (multiply_below 13 a fa) (multiply_below 9 b fb) (multiply_below 14 c fc) (multiply_below 11 d fd))
          (sum_below (multiply 11 a) (multiply 13 b) (multiply 9 c) (multiply 14 d) (multiply_below 11 a fa) (multiply_below 13 b fb) (multiply_below 9 c fc) (multiply_below 14 d fd));
    }

IsState-inv_shift_rows : (s : List ℕ) → IsState s → IsState (inv_shift_rows s)
unfolding inv_shift_rows
IsState-inv_shift_rows s h = record { long = refl; bytes = bytes-map (slice_index s) h.bytes (0 ∷ 13 ∷ 10 ∷ 7 ∷ 4 ∷ 1 ∷ 14 ∷ 11 ∷ 8 ∷ 5 ∷ 2 ∷ 15 ∷ 12 ∷ 9 ∷ 6 ∷ 3 ∷ []) }

IsState-inv_sub_bytes : (s : List ℕ) → IsState s → IsState (inv_sub_bytes s)
unfolding inv_sub_bytes
IsState-inv_sub_bytes s h =
    record { long = refl; bytes = bytes-map (λ i. inverse_substitute (slice_index s i)) (λ i. inverse_substitute_below (slice_index s i) (h.bytes i)) (range_with_len 0 16) }

IsState-inv_mix_columns : (s : List ℕ) → IsState s → IsState (inv_mix_columns s)
unfolding inv_mix_columns inv_mix_column
IsState-inv_mix_columns s h =
    let column : (i j k l : ℕ) → AreBytes (inv_mix_column (slice_index s i) (slice_index s j) (slice_index s k) (slice_index s l)) =
    λ i j k l. inv_mix_column_bytes (slice_index s i) (slice_index s j) (slice_index s k) (slice_index s l) (h.bytes i) (h.bytes j) (h.bytes k) (h.bytes l) in
    record { long = refl; bytes = (bytes-append _ _ (column 0 1 2 3) (bytes-append _ _ (column 4 5 6 7) (bytes-append _ _ (column 8 9 10 11) (column 12 13 14 15)))).each }

-- the state before the key of an inverse round
unkeyed : (s : List ℕ) → IsState s → IsState (inv_sub_bytes (inv_shift_rows s))
unkeyed s h = IsState-inv_sub_bytes _ (IsState-inv_shift_rows s h)

keyed : (w s : List ℕ) (i : ℕ) → IsState s → IsState (add_round_key s (round_key w i))
keyed w s i h = IsState-add_round_key s (round_key w i) (bytes_of_state s h) (round_key_bytes w i)

IsState-inv_cipher_rounds : (w b : List ℕ) (r n : ℕ) → IsState b → IsState (inv_cipher_rounds w r b n)
unfolding inv_cipher_rounds
IsState-inv_cipher_rounds w b r zero h = keyed w b r h
IsState-inv_cipher_rounds w b r (suc n) h =
    IsState-inv_mix_columns _ (keyed w (inv_sub_bytes (inv_shift_rows (inv_cipher_rounds w r b n))) (r - suc n) (unkeyed _ (IsState-inv_cipher_rounds w b r n h)))

-- ---- the rounds go through the inverse rounds again
one_round_again : (w b : List ℕ) (r m : ℕ) → IsState b
    → mix_columns (inv_cipher_rounds w r b (suc m)) ≡ add_round_key (inv_sub_bytes (inv_shift_rows (inv_cipher_rounds w r b m))) (round_key w (r - suc m))
unfolding inv_cipher_rounds
one_round_again w b r m h =
    remixed_state (add_round_key (inv_sub_bytes (inv_shift_rows (inv_cipher_rounds w r b m))) (round_key w (r - suc m)))
    (keyed w (inv_sub_bytes (inv_shift_rows (inv_cipher_rounds w r b m))) (r - suc m) (unkeyed _ (IsState-inv_cipher_rounds w b r m h)))

rounds_again : (w b : List ℕ) (r n : ℕ) → n < r → IsState b
    → cipher_rounds w (inv_cipher_from w r b) n ≡ inv_sub_bytes (inv_shift_rows (inv_cipher_rounds w r b (r - 1 - n)))
unfolding cipher_rounds inv_cipher_from
rounds_again w b r zero below h =
    let s : List ℕ = inv_sub_bytes (inv_shift_rows (inv_cipher_rounds w r b (r - 1))) in
    let state : IsState s = unkeyed _ (IsState-inv_cipher_rounds w b r (r - 1) h) in
    let e : r - 1 - 0 ≡ r - 1 = omega arith in
    rw e (added_twice s (round_key w 0) state.long)
rounds_again w b r (suc n) below h =
    let m : ℕ = r - 1 - suc n in
    let here : r - 1 - n ≡ suc m = omega arith in
    let key : r - suc m ≡ suc n = omega arith in
    let before : List ℕ = inv_sub_bytes (inv_shift_rows (inv_cipher_rounds w r b m)) in
    let state : IsState before = unkeyed _ (IsState-inv_cipher_rounds w b r m h) in
    ap (λ (z : List ℕ). add_round_key (mix_columns (shift_rows (sub_bytes z))) (round_key w (suc n))) (rounds_again w b r n (omega arith) h)
    ∙ ap (λ (z : List ℕ). add_round_key (mix_columns z) (round_key w (suc n))) (substituted_again (inv_cipher_rounds w r b (r - 1 - n)) (IsState-inv_cipher_rounds w b r (r - 1 - n) h))
    ∙ ap (λ (i : ℕ). add_round_key (mix_columns (inv_cipher_rounds w r b i)) (round_key w (suc n))) here
    ∙ ap (λ (z : List ℕ). add_round_key z (round_key w (suc n))) (one_round_again w b r m h)
    ∙ ap (λ (i : ℕ). add_round_key (add_round_key before (round_key w i)) (round_key w (suc n))) key
    ∙ added_twice before (round_key w (suc n)) state.long

-- the cipher undoes the inverse cipher
cipher-inv_cipher : (key b : List ℕ) → IsState b → cipher key (inv_cipher key b) ≡ b
unfolding cipher cipher_from inv_cipher inv_cipher_rounds
cipher-inv_cipher key b h =
    let w : List ℕ = round_key_words key in
    let r : ℕ = round_count key in
    let first : r - 1 - (r - 1) ≡ 0 = omega arith in
    ap (λ (z : List ℕ). add_round_key (shift_rows (sub_bytes z)) (round_key w r)) (rounds_again w b r (r - 1) (omega arith) h)
    ∙ ap (λ (i : ℕ). add_round_key (shift_rows (sub_bytes (inv_sub_bytes (inv_shift_rows (inv_cipher_rounds w r b i))))) (round_key w r)) first
    ∙ ap (λ (z : List ℕ). add_round_key z (round_key w r)) (substituted_again (inv_cipher_rounds w r b 0) (IsState-inv_cipher_rounds w b r 0 h))
    ∙ added_twice b (round_key w r) h.long

pub redone : (key b : List ℕ) → length b ≡ 16 → All (λ x. x < 256) b → cipher key (inv_cipher key b) ≡ b
redone key b long all =
    cipher-inv_cipher key b (record {
      long = long;
      bytes = λ i. elim (cases_lt i (length b)) [
        | inl lt ↦ All-get_or (λ x. x < 256) b i 0 lt all
        | inr ge ↦ rw (get_or_past b i 0 ge) (omega arith)
      ];
    })
