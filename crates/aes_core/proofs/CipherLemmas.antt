-- The rounds over an expanded key, and the equivalent inverse cipher (FIPS 197, section 5.3.5).
use Rattle.std.proofs.Common.{◌≡◌, ℕ, zero, suc, ◌+◌, ◌-◌, ◌*◌, ◌%◌, ◌<◌, ◌≤◌, List, [], ◌∷◌, length, take, slice_index, refl, sym, ap, ◌∙◌, arith}
use Rattle.std.proofs.lemmas.List.{get_or-take, length-take-le}
use Rattle.std.specs.List.{flat_map}
use Rattle.aes_core.specs.Cipher.{cipher_rounds, cipher_from, cipher, inv_cipher_rounds, inv_cipher_from, inv_cipher}
use Rattle.aes_core.specs.KeyExpansion.{round_count, round_key, key_of_words, inv_mixed_word, IsExpansion}
use Rattle.aes_core.specs.Transformations.{sub_bytes, shift_rows, mix_columns, add_round_key, inv_sub_bytes, inv_shift_rows, inv_mix_columns}
use Rattle.aes_core.specs.Words.{word_bytes}
use Rattle.aes_core.proofs.FieldLemmas.{inv_mix_columns-add, four_columns}
use Rattle.aes_core.proofs.KeyLemmas.{key_length_bounds}

round_key-take : (n : ℕ) (w : List ℕ) (i : ℕ) → 4 * i + 4 ≤ n → round_key (take n w) i ≡ round_key w i
unfolding round_key
round_key-take n w i h =
    rw (get_or-take n w (4 * i) 0 (omega arith), get_or-take n w (4 * i + 1) 0 (omega arith), get_or-take n w (4 * i + 2) 0 (omega arith), get_or-take n w (4 * i + 3) 0 (omega arith)) refl

cipher_rounds-take : (n : ℕ) (w b : List ℕ) (k : ℕ) → 4 * k + 4 ≤ n → cipher_rounds (take n w) b k ≡ cipher_rounds w b k
unfolding cipher_rounds
cipher_rounds-take n w b zero h = ap (add_round_key b) (round_key-take n w 0 h)
cipher_rounds-take n w b (suc k) h =
    rw (cipher_rounds-take n w b k (omega arith), round_key-take n w (suc k) h) refl

inv_cipher_rounds-take : (n : ℕ) (w : List ℕ) (r : ℕ) (b : List ℕ) (k : ℕ) → 4 * r + 4 ≤ n → inv_cipher_rounds (take n w) r b k ≡ inv_cipher_rounds w r b k
unfolding inv_cipher_rounds
inv_cipher_rounds-take n w r b zero h = ap (add_round_key b) (round_key-take n w r h)
inv_cipher_rounds-take n w r b (suc k) h =
    rw (inv_cipher_rounds-take n w r b k h, round_key-take n w (r - suc k) (omega arith)) refl

length-bytes : (w : List ℕ) → length (flat_map word_bytes w) ≡ 4 * length w
unfolding word_bytes
length-bytes [] = refl
length-bytes (x ∷ w) = omega (arith, length-bytes w)

round_count_is : (r : ℕ) (w inv : List ℕ) → length w ≡ 60 → IsExpansion r w inv → round_count (key_of_words r w) ≡ r
unfolding key_of_words
round_count_is r w inv long e =
    let bounds : (16 ≤ 4 * (r - 6)) × (4 * (r - 6) ≤ 32) × ((4 * (r - 6)) % 4 ≡ 0) = key_length_bounds (4 * (r - 6)) e.length_is in
    let count : length (take (r - 6) w) ≡ r - 6 = length-take-le (r - 6) w (omega arith) in
    omega (arith, length-bytes (take (r - 6) w))

pub rounds_bounds : (r : ℕ) (w inv : List ℕ) → IsExpansion r w inv → (10 ≤ r) × (r ≤ 14)
rounds_bounds r w inv e =
    let bounds : (16 ≤ 4 * (r - 6)) × (4 * (r - 6) ≤ 32) × ((4 * (r - 6)) % 4 ≡ 0) = key_length_bounds (4 * (r - 6)) e.length_is in
    (omega arith, omega arith)

-- the cipher over the words of an expanded key
pub cipher_from_words : (r : ℕ) (w inv b : List ℕ) → length w ≡ 60 → IsExpansion r w inv → cipher_from w r b ≡ cipher (key_of_words r w) b
unfolding cipher_from cipher
cipher_from_words r w inv b long e =
    let n : ℕ = 4 * (r + 1) in
    let low : 10 ≤ r = (rounds_bounds r w inv e).0 in
    rw (round_count_is r w inv long e, ← e.words_are)
    (rw (cipher_rounds-take n w b (r - 1) (omega arith), round_key-take n w r (omega arith)) refl)

pub inv_cipher_from_words : (r : ℕ) (w inv b : List ℕ) → length w ≡ 60 → IsExpansion r w inv → inv_cipher_from w r b ≡ inv_cipher (key_of_words r w) b
unfolding inv_cipher_from inv_cipher
inv_cipher_from_words r w inv b long e =
    let n : ℕ = 4 * (r + 1) in
    let low : 10 ≤ r = (rounds_bounds r w inv e).0 in
    rw (round_count_is r w inv long e, ← e.words_are)
    (rw (inv_cipher_rounds-take n w r b (r - 1) (omega arith), round_key-take n w 0 (omega arith)) refl)

-- ---- the loops over the rounds
pub cipher_rounds_start : (w b s k : List ℕ) (n : ℕ) → n ≡ 0 → s ≡ add_round_key b k → k ≡ round_key w 0 → s ≡ cipher_rounds w b n
unfolding cipher_rounds
cipher_rounds_start w b s k n none e ek = rw (none, e, ek) refl

pub cipher_rounds_next : (w b s t k : List ℕ) (n : ℕ) → 1 ≤ n → s ≡ cipher_rounds w b (n - 1)
    → t ≡ add_round_key (mix_columns (shift_rows (sub_bytes s))) k → k ≡ round_key w n → t ≡ cipher_rounds w b (n + 1 - 1)
unfolding cipher_rounds
cipher_rounds_next w b s t k n some held e ek =
    let at : n + 1 - 1 ≡ suc (n - 1) = omega arith in
    let here : suc (n - 1) ≡ n = omega arith in
    rw at (e ∙ rw (held, ek, here) refl)

pub cipher_from_last : (w b s t u k : List ℕ) (r n : ℕ) → n ≡ r → s ≡ cipher_rounds w b (n - 1) → t ≡ shift_rows (sub_bytes s)
    → u ≡ add_round_key t k → k ≡ round_key w r → u ≡ cipher_from w r b
unfolding cipher_from
cipher_from_last w b s t u k r n last held et eu ek = rw (eu, et, held, ek, last) refl

pub inv_cipher_rounds_start : (w b s k : List ℕ) (r n : ℕ) → n ≡ 0 → s ≡ add_round_key b k → k ≡ round_key w r → s ≡ inv_cipher_rounds w r b n
unfolding inv_cipher_rounds
inv_cipher_rounds_start w b s k r n none e ek = rw (none, e, ek) refl

-- a round key through InvMixColumns is the round key of the inverse words
round_key-inverse : (w v : List ℕ) (i : ℕ) → ((j : ℕ) → j < 60 → word_bytes (slice_index v j) ≡ inv_mixed_word (slice_index w j)) → i < 15
    → inv_mix_columns (round_key w i) ≡ round_key v i
unfolding inv_mix_columns inv_mixed_word round_key word_bytes
round_key-inverse w v i e h =
    sym (four_columns _ _ _ _ _ _ _ _ (e (4 * i) (omega arith)) (e (4 * i + 1) (omega arith)) (e (4 * i + 2) (omega arith)) (e (4 * i + 3) (omega arith)))

pub inv_cipher_rounds_next : (w v b s t k : List ℕ) (r n : ℕ) → 1 ≤ n → r < 15
    → ((j : ℕ) → j < 60 → word_bytes (slice_index v j) ≡ inv_mixed_word (slice_index w j)) → s ≡ inv_cipher_rounds w r b (n - 1)
    → t ≡ add_round_key (inv_mix_columns (inv_sub_bytes (inv_shift_rows s))) k → k ≡ round_key v (r - n) → t ≡ inv_cipher_rounds w r b (n + 1 - 1)
unfolding inv_cipher_rounds
inv_cipher_rounds_next w v b s t k r n some most e held et ek =
    let at : n + 1 - 1 ≡ suc (n - 1) = omega arith in
    let here : suc (n - 1) ≡ n = omega arith in
    rw (at, here)
    (et ∙ rw (ek, ← round_key-inverse w v (r - n) e (omega arith))
    (sym (inv_mix_columns-add (inv_sub_bytes (inv_shift_rows s)) (round_key w (r - n))) ∙ rw held refl))

pub inv_cipher_from_last : (w b s t u k : List ℕ) (r n : ℕ) → n ≡ r → s ≡ inv_cipher_rounds w r b (n - 1) → t ≡ inv_sub_bytes (inv_shift_rows s)
    → u ≡ add_round_key t k → k ≡ round_key w 0 → u ≡ inv_cipher_from w r b
unfolding inv_cipher_from
inv_cipher_from_last w b s t u k r n last held et eu ek = rw (eu, et, held, ek, last) refl
