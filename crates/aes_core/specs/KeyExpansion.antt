-- The round keys (FIPS 197, section 5.2). A word is a number below 2^32 whose first byte is its highest.
use Rattle.std.specs.Prelude.{◌≡◌, ℕ, zero, suc, ◌+◌, ◌-◌, ◌*◌, ◌/◌, ◌%◌, ◌^◌, ◌<◌, ◌==◌, nat_lt, Bool, ◌&&◌, ◌||◌, IsTrue, List, [], ◌∷◌, ◌++◌, length, map, take, bit_xor, slice_index, if◌then◌else◌}
use Rattle.std.specs.Int.{w32, rotate_left, from_be_bytes}
use Rattle.std.specs.List.{flat_map}
use Rattle.aes_core.specs.Field.{power, substitute}
use Rattle.aes_core.specs.Transformations.{inv_mix_column}
use Rattle.aes_core.specs.Words.{word_bytes, word_at, block_of}

-- how many rounds a key has: 10, 12 or 14 (section 5, table 3)
abbrev pub round_count : List ℕ → ℕ
round_count key = length key / 4 + 6

-- each byte of a word substituted
unfoldable pub sub_word : ℕ → ℕ
sub_word x = from_be_bytes w32 (map substitute (word_bytes x))

-- the round constant of number j: x^(j-1), as the first byte of a word (table 5)
unfoldable pub round_constant : ℕ → ℕ
round_constant j = power 2 (j - 1) * 2 ^ 24

-- what is added to the word nk places before word i, from the word before it
unfoldable pub key_step : ℕ → ℕ → ℕ → ℕ
key_step nk i before =
    if i % nk == 0 then bit_xor (sub_word (rotate_left w32 before 8)) (round_constant (i / nk))
    else if nat_lt 6 nk && (i % nk == 4) then sub_word before
    else before

-- the first n words of a key
unfoldable pub first_words : List ℕ → ℕ → List ℕ
first_words key zero = []
first_words key (suc n) = first_words key n ++ word_at key n ∷ []

-- the nk words of a key and the n words after them
unfoldable pub key_words : ℕ → List ℕ → ℕ → List ℕ
key_words nk key zero = first_words key nk
key_words nk key (suc n) =
    let w = key_words nk key n in
    w ++ bit_xor (slice_index w n) (key_step nk (nk + n) (slice_index w (nk + n - 1))) ∷ []

-- all words of a key's round keys: four before the first round, and four for each round
unfoldable pub round_key_words : List ℕ → List ℕ
round_key_words key =
    let nk = length key / 4 in
    key_words nk key (4 * (round_count key + 1) - nk)

-- round key i: words 4i to 4i + 3
unfoldable pub round_key : List ℕ → ℕ → List ℕ
round_key w i =
    block_of (slice_index w (4 * i)) (slice_index w (4 * i + 1)) (slice_index w (4 * i + 2)) (slice_index w (4 * i + 3))

-- keys have 128, 192 or 256 bits (section 5, table 3)
abbrev pub is_key_length : ℕ → Bool
is_key_length n = n == 16 || n == 24 || n == 32

-- the key whose expansion these words are: its bytes are the bytes of the first words
unfoldable pub key_of_words : ℕ → List ℕ → List ℕ
key_of_words rounds words = flat_map word_bytes (take (rounds - 6) words)

-- a word as a column through InvMixColumns
unfoldable pub inv_mixed_word : ℕ → List ℕ
inv_mixed_word x =
    inv_mix_column (slice_index (word_bytes x) 0) (slice_index (word_bytes x) 1) (slice_index (word_bytes x) 2)
    (slice_index (word_bytes x) 3)

-- the words begin with a key's expansion, and the inverse words are these through InvMixColumns
pub record IsExpansion (rounds : ℕ) (words inverse_words : List ℕ) : Type 0 where
  pub length_is : IsTrue (is_key_length (4 * (rounds - 6)))
  pub words_are : take (4 * (rounds + 1)) words ≡ round_key_words (key_of_words rounds words)
  pub inverse_are : (i : ℕ) → i < 60 → word_bytes (slice_index inverse_words i) ≡ inv_mixed_word (slice_index words i)
