-- The examples of FIPS 197, so that a wrong step in the definitions does not check. The cipher is computed with the
-- substitution's table, which is the same.
use Rattle.std.proofs.Common.{◌≡◌, ℕ, zero, suc, ◌+◌, ◌-◌, ◌*◌, ◌/◌, ◌%◌, ◌<◌, ◌==◌, nat_lt, ◌&&◌, if◌then◌else◌, List, [], ◌∷◌, ◌++◌, map, length, bit_xor}
use Rattle.std.proofs.Common.{get_or, slice_index, refl, sym, ap, ap₂, ◌∙◌, subst, arith, zero-add}
use Rattle.std.specs.Int.{w32, rotate_left, from_be_bytes}
use Rattle.std.proofs.lemmas.List.FromFn.{get_or-map-range_with_len}
use Rattle.aes_core.specs.declared.tables.TheConstants.{SUBSTITUTE}
use Rattle.aes_core.specs.Field.{xtimes, multiply_powers, multiply, power, inverse, byte_of_bits, affine, inverse_affine, substitute, inverse_substitute}
use Rattle.aes_core.specs.Transformations.{state_of, sub_bytes, shift_rows, mix_column, mix_columns, add_round_key}
use Rattle.aes_core.specs.KeyExpansion.{round_count, sub_word, round_constant, key_step, first_words, key_words, round_key_words, round_key}
use Rattle.aes_core.specs.Words.{word_bytes, word_at}
use Rattle.aes_core.specs.Cipher.{cipher_rounds, cipher_from, cipher}
use Rattle.aes_core.proofs.FieldLemmas.{four}
use Rattle.aes_core.proofs.LawLemmas.{IsState, state_of_same, bytes-map, IsState-cipher_rounds}
use Rattle.aes_core.proofs.TableEntries.{entry_substitute}

pub product_57_83 : multiply 0x57 0x83 ≡ 0xc1
unfolding xtimes multiply_powers multiply
product_57_83 = refl

pub substitute_53 : substitute 0x53 ≡ 0xed
unfolding xtimes multiply_powers multiply power inverse byte_of_bits affine substitute
substitute_53 = refl

pub inverse_substitute_ed : inverse_substitute 0xed ≡ 0x53
unfolding xtimes multiply_powers multiply power inverse byte_of_bits inverse_affine inverse_substitute
inverse_substitute_ed = refl

-- ---- the cipher with the table in place of the substitution
table_at : ℕ → ℕ
table_at x = get_or SUBSTITUTE x 0

table_at-substitute : (x : ℕ) → x < 256 → table_at x ≡ substitute x
unfolding table_at
table_at-substitute x h = entry_substitute SUBSTITUTE x refl h

table_word : ℕ → ℕ
table_word x = from_be_bytes w32 (map table_at (word_bytes x))

table_word-sub_word : (x : ℕ) → table_word x ≡ sub_word x
unfolding table_word sub_word word_bytes
table_word-sub_word x =
    ap (from_be_bytes w32)
    (four _ _ _ _ _ _ _ _ (table_at-substitute _ (omega arith)) (table_at-substitute _ (omega arith)) (table_at-substitute _ (omega arith)) (table_at-substitute _ (omega arith)))

-- what a step of the expansion adds, from the turned word and the word before, each substituted
added : ℕ → ℕ → ℕ → ℕ → ℕ → ℕ
added nk i turned here before =
    if i % nk == 0 then bit_xor turned (round_constant (i / nk))
    else if nat_lt 6 nk && (i % nk == 4) then here
    else before

table_step : ℕ → ℕ → ℕ → ℕ
table_step nk i before = added nk i (table_word (rotate_left w32 before 8)) (table_word before) before

table_step-key_step : (nk i before : ℕ) → table_step nk i before ≡ key_step nk i before
unfolding table_step added key_step
table_step-key_step nk i before =
    ap₂ (λ (t h : ℕ). added nk i t h before) (table_word-sub_word (rotate_left w32 before 8)) (table_word-sub_word before)

table_words : ℕ → List ℕ → ℕ → List ℕ
table_words nk key zero = first_words key nk
table_words nk key (suc n) =
    let w = table_words nk key n in
    w ++ bit_xor (slice_index w n) (table_step nk (nk + n) (slice_index w (nk + n - 1))) ∷ []

table_words-key_words : (nk : ℕ) (key : List ℕ) (n : ℕ) → table_words nk key n ≡ key_words nk key n
unfolding table_words key_words
table_words-key_words nk key zero = refl
table_words-key_words nk key (suc n) =
    let w : List ℕ = key_words nk key n in
    ap (λ (l : List ℕ). l ++ bit_xor (slice_index l n) (table_step nk (nk + n) (slice_index l (nk + n - 1))) ∷ []) (table_words-key_words nk key n)
    ∙ ap (λ (z : ℕ). w ++ bit_xor (slice_index w n) z ∷ []) (table_step-key_step nk (nk + n) (slice_index w (nk + n - 1)))

table_bytes : List ℕ → List ℕ
table_bytes s = state_of (λ i. table_at (slice_index s i))

table_bytes-sub_bytes : (s : List ℕ) → IsState s → table_bytes s ≡ sub_bytes s
unfolding table_bytes sub_bytes
table_bytes-sub_bytes s h =
    state_of_same (λ i. table_at (slice_index s i)) (state_of (λ i. substitute (slice_index s i))) refl
    (λ i below. table_at-substitute (slice_index s i) (h.bytes i)
    ∙ sym (get_or-map-range_with_len (λ j. substitute (slice_index s j)) 0 16 i i 0 below (zero-add i)))

table_rounds : List ℕ → List ℕ → ℕ → List ℕ
table_rounds w b zero = add_round_key b (round_key w 0)
table_rounds w b (suc n) = add_round_key (mix_columns (shift_rows (table_bytes (table_rounds w b n)))) (round_key w (suc n))

table_rounds-cipher_rounds : (w b : List ℕ) (n : ℕ) → IsState b → table_rounds w b n ≡ cipher_rounds w b n
unfolding table_rounds cipher_rounds
table_rounds-cipher_rounds w b zero h = refl
table_rounds-cipher_rounds w b (suc n) h =
    ap (λ (z : List ℕ). add_round_key (mix_columns (shift_rows (table_bytes z))) (round_key w (suc n))) (table_rounds-cipher_rounds w b n h)
    ∙ ap (λ (z : List ℕ). add_round_key (mix_columns (shift_rows z)) (round_key w (suc n))) (table_bytes-sub_bytes (cipher_rounds w b n) (IsState-cipher_rounds w b n h))

table_from : List ℕ → ℕ → List ℕ → List ℕ
table_from w rounds b = add_round_key (shift_rows (table_bytes (table_rounds w b (rounds - 1)))) (round_key w rounds)

table_from-cipher_from : (w : List ℕ) (rounds : ℕ) (b : List ℕ) → IsState b → table_from w rounds b ≡ cipher_from w rounds b
unfolding table_from cipher_from
table_from-cipher_from w rounds b h =
    ap (λ (z : List ℕ). add_round_key (shift_rows (table_bytes z)) (round_key w rounds)) (table_rounds-cipher_rounds w b (rounds - 1) h)
    ∙ ap (λ (z : List ℕ). add_round_key (shift_rows z) (round_key w rounds)) (table_bytes-sub_bytes (cipher_rounds w b (rounds - 1)) (IsState-cipher_rounds w b (rounds - 1) h))

table_cipher : List ℕ → List ℕ → List ℕ
table_cipher key b =
    let nk = length key / 4 in
    table_from (table_words nk key (4 * (round_count key + 1) - nk)) (round_count key) b

table_cipher-cipher : (key b : List ℕ) → length b ≡ 16 → map (λ (x : ℕ). x % 256) b ≡ b → table_cipher key b ≡ cipher key b
unfolding table_cipher cipher round_key_words
table_cipher-cipher key b long same =
    let nk : ℕ = length key / 4 in
    let state : IsState b = record { long = long; bytes = λ i. subst (λ (l : List ℕ). get_or l i 0 < 256) same (bytes-map (λ (x : ℕ). x % 256) (λ x. omega arith) b i) } in
    ap (λ (w : List ℕ). table_from w (round_count key) b) (table_words-key_words nk key (4 * (round_count key + 1) - nk))
    ∙ table_from-cipher_from (round_key_words key) (round_count key) b state

-- appendix C, with 128 bits
table_128 : table_cipher
    (0x00 ∷ 0x01 ∷ 0x02 ∷ 0x03 ∷ 0x04 ∷ 0x05 ∷ 0x06 ∷ 0x07 ∷ 0x08 ∷ 0x09 ∷ 0x0a ∷ 0x0b ∷ 0x0c ∷ 0x0d ∷ 0x0e ∷ 0x0f ∷ [])
    (0x00 ∷ 0x11 ∷ 0x22 ∷ 0x33 ∷ 0x44 ∷ 0x55 ∷ 0x66 ∷ 0x77 ∷ 0x88 ∷ 0x99 ∷ 0xaa ∷ 0xbb ∷ 0xcc ∷ 0xdd ∷ 0xee ∷ 0xff ∷ [])
    ≡ 0x69 ∷ 0xc4 ∷ 0xe0 ∷ 0xd8 ∷ 0x6a ∷ 0x7b ∷ 0x04 ∷ 0x30 ∷ 0xd8 ∷ 0xcd ∷ 0xb7 ∷ 0x80 ∷ 0x70 ∷ 0xb4 ∷ 0xc5 ∷ 0x5a ∷ []
unfolding word_at xtimes multiply_powers multiply power shift_rows mix_column mix_columns add_round_key word_bytes round_constant first_words round_key table_at table_word
    added table_step table_words table_bytes table_rounds table_from table_cipher
table_128 = refl

pub cipher_128 : cipher
    (0x00 ∷ 0x01 ∷ 0x02 ∷ 0x03 ∷ 0x04 ∷ 0x05 ∷ 0x06 ∷ 0x07 ∷ 0x08 ∷ 0x09 ∷ 0x0a ∷ 0x0b ∷ 0x0c ∷ 0x0d ∷ 0x0e ∷ 0x0f ∷ [])
    (0x00 ∷ 0x11 ∷ 0x22 ∷ 0x33 ∷ 0x44 ∷ 0x55 ∷ 0x66 ∷ 0x77 ∷ 0x88 ∷ 0x99 ∷ 0xaa ∷ 0xbb ∷ 0xcc ∷ 0xdd ∷ 0xee ∷ 0xff ∷ [])
    ≡ 0x69 ∷ 0xc4 ∷ 0xe0 ∷ 0xd8 ∷ 0x6a ∷ 0x7b ∷ 0x04 ∷ 0x30 ∷ 0xd8 ∷ 0xcd ∷ 0xb7 ∷ 0x80 ∷ 0x70 ∷ 0xb4 ∷ 0xc5 ∷ 0x5a ∷ []
cipher_128 = sym (table_cipher-cipher _ _ refl refl) ∙ table_128

-- appendix C, with 192 bits
table_192 : table_cipher
    (0x00 ∷ 0x01 ∷ 0x02 ∷ 0x03 ∷ 0x04 ∷ 0x05 ∷ 0x06 ∷ 0x07 ∷ 0x08 ∷ 0x09 ∷ 0x0a ∷ 0x0b ∷ 0x0c ∷ 0x0d ∷ 0x0e ∷ 0x0f ∷ 0x10 ∷ 0x11 ∷ 0x12 ∷ 0x13 ∷ 0x14 ∷ 0x15 ∷ 0x16 ∷ 0x17 ∷ [])
    (0x00 ∷ 0x11 ∷ 0x22 ∷ 0x33 ∷ 0x44 ∷ 0x55 ∷ 0x66 ∷ 0x77 ∷ 0x88 ∷ 0x99 ∷ 0xaa ∷ 0xbb ∷ 0xcc ∷ 0xdd ∷ 0xee ∷ 0xff ∷ [])
    ≡ 0xdd ∷ 0xa9 ∷ 0x7c ∷ 0xa4 ∷ 0x86 ∷ 0x4c ∷ 0xdf ∷ 0xe0 ∷ 0x6e ∷ 0xaf ∷ 0x70 ∷ 0xa0 ∷ 0xec ∷ 0x0d ∷ 0x71 ∷ 0x91 ∷ []
unfolding word_at xtimes multiply_powers multiply power shift_rows mix_column mix_columns add_round_key word_bytes round_constant first_words round_key table_at table_word
    added table_step table_words table_bytes table_rounds table_from table_cipher
table_192 = refl

pub cipher_192 : cipher
    (0x00 ∷ 0x01 ∷ 0x02 ∷ 0x03 ∷ 0x04 ∷ 0x05 ∷ 0x06 ∷ 0x07 ∷ 0x08 ∷ 0x09 ∷ 0x0a ∷ 0x0b ∷ 0x0c ∷ 0x0d ∷ 0x0e ∷ 0x0f ∷ 0x10 ∷ 0x11 ∷ 0x12 ∷ 0x13 ∷ 0x14 ∷ 0x15 ∷ 0x16 ∷ 0x17 ∷ [])
    (0x00 ∷ 0x11 ∷ 0x22 ∷ 0x33 ∷ 0x44 ∷ 0x55 ∷ 0x66 ∷ 0x77 ∷ 0x88 ∷ 0x99 ∷ 0xaa ∷ 0xbb ∷ 0xcc ∷ 0xdd ∷ 0xee ∷ 0xff ∷ [])
    ≡ 0xdd ∷ 0xa9 ∷ 0x7c ∷ 0xa4 ∷ 0x86 ∷ 0x4c ∷ 0xdf ∷ 0xe0 ∷ 0x6e ∷ 0xaf ∷ 0x70 ∷ 0xa0 ∷ 0xec ∷ 0x0d ∷ 0x71 ∷ 0x91 ∷ []
cipher_192 = sym (table_cipher-cipher _ _ refl refl) ∙ table_192

-- appendix C, with 256 bits
table_256 : table_cipher
    (0x00 ∷ 0x01 ∷ 0x02 ∷ 0x03 ∷ 0x04 ∷ 0x05 ∷ 0x06 ∷ 0x07 ∷ 0x08 ∷ 0x09 ∷ 0x0a ∷ 0x0b ∷ 0x0c ∷ 0x0d ∷ 0x0e ∷ 0x0f ∷ 0x10 ∷ 0x11 ∷ 0x12 ∷ 0x13 ∷ 0x14 ∷ 0x15 ∷ 0x16 ∷ 0x17 ∷ 0x18 ∷
    0x19 ∷ 0x1a ∷ 0x1b ∷ 0x1c ∷ 0x1d ∷ 0x1e ∷ 0x1f ∷ [])
    (0x00 ∷ 0x11 ∷ 0x22 ∷ 0x33 ∷ 0x44 ∷ 0x55 ∷ 0x66 ∷ 0x77 ∷ 0x88 ∷ 0x99 ∷ 0xaa ∷ 0xbb ∷ 0xcc ∷ 0xdd ∷ 0xee ∷ 0xff ∷ [])
    ≡ 0x8e ∷ 0xa2 ∷ 0xb7 ∷ 0xca ∷ 0x51 ∷ 0x67 ∷ 0x45 ∷ 0xbf ∷ 0xea ∷ 0xfc ∷ 0x49 ∷ 0x90 ∷ 0x4b ∷ 0x49 ∷ 0x60 ∷ 0x89 ∷ []
unfolding word_at xtimes multiply_powers multiply power shift_rows mix_column mix_columns add_round_key word_bytes round_constant first_words round_key table_at table_word
    added table_step table_words table_bytes table_rounds table_from table_cipher
table_256 = refl

pub cipher_256 : cipher
    (0x00 ∷ 0x01 ∷ 0x02 ∷ 0x03 ∷ 0x04 ∷ 0x05 ∷ 0x06 ∷ 0x07 ∷ 0x08 ∷ 0x09 ∷ 0x0a ∷ 0x0b ∷ 0x0c ∷ 0x0d ∷ 0x0e ∷ 0x0f ∷ 0x10 ∷ 0x11 ∷ 0x12 ∷ 0x13 ∷ 0x14 ∷ 0x15 ∷ 0x16 ∷ 0x17 ∷ 0x18 ∷
    0x19 ∷ 0x1a ∷ 0x1b ∷ 0x1c ∷ 0x1d ∷ 0x1e ∷ 0x1f ∷ [])
    (0x00 ∷ 0x11 ∷ 0x22 ∷ 0x33 ∷ 0x44 ∷ 0x55 ∷ 0x66 ∷ 0x77 ∷ 0x88 ∷ 0x99 ∷ 0xaa ∷ 0xbb ∷ 0xcc ∷ 0xdd ∷ 0xee ∷ 0xff ∷ [])
    ≡ 0x8e ∷ 0xa2 ∷ 0xb7 ∷ 0xca ∷ 0x51 ∷ 0x67 ∷ 0x45 ∷ 0xbf ∷ 0xea ∷ 0xfc ∷ 0x49 ∷ 0x90 ∷ 0x4b ∷ 0x49 ∷ 0x60 ∷ 0x89 ∷ []
cipher_256 = sym (table_cipher-cipher _ _ refl refl) ∙ table_256
