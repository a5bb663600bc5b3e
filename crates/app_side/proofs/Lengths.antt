-- How many random bytes come.
use Rattle.std.proofs.Common.{ℕ, List, ◌≡◌, ◌+◌, ◌*◌, ◌%◌, ◌^◌, zero, suc, length, refl, ◌∙◌, arith}
use Rattle.std.specs.Int.{w32, to_le_bytes}
use Rattle.std.proofs.lemmas.List.{length-append, length-take-le}
use Rattle.rand_chacha.specs.ChaCha.{ChaCha, word_at}
use Rattle.crypto_ops.specs.Random.{random_from, words_for, words_from}

-- a word has four
words_length : (key : List ℕ) (stream place count : ℕ) → length (words_from key stream place count) ≡ count * 4
unfolding words_from
words_length key stream place zero = refl
words_length key stream place (suc count) =
    let word = to_le_bytes w32 (word_at 10 key stream ((place + count) % 2 ^ 68)) in
    let four : length word ≡ 4 = refl in
    length-append (words_from key stream place count) word ∙ omega (arith, four, words_length key stream place count)

-- as many as are wanted
pub random_length : (s : ChaCha) (count : ℕ) → length (random_from s count) ≡ count
random_length s count = length-take-le count (words_from s.key s.stream s.word_pos (words_for count)) (omega (arith, words_length s.key s.stream s.word_pos (words_for count)))
