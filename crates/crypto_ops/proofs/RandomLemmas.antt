-- The bytes that a generator writes are those of the stream's words.
use Rattle.std.proofs.Common.{◌≡◌, ℕ, zero, suc, ◌+◌, ◌%◌, ◌^◌, ◌<◌, List, [], ◌++◌, take, sym, ap, ◌∙◌, arith, add-zero, lit<}
use Rattle.std.proofs.Math.Nat.{mod-eq_of_lt, mod-add-mod, mod-lt}
use Rattle.std.specs.Int.{w32, to_le_bytes}
use Rattle.rand_core.specs.Steps.{word_bytes, fill_via_u32}
use Rattle.rand_chacha.specs.ChaCha.{ChaCha, next_word}
use Rattle.crypto_ops.specs.Random.{words_from, words_for, random_from, stream_after}

-- the generator so many words later
abbrev later : ChaCha → ℕ → ChaCha
later g k = record g { word_pos = (g.word_pos + k) % 2 ^ 68 }

same_place : (g : ChaCha) → g.word_pos < 2 ^ 68 → later g 0 ≡ g
same_place g h = ap (λ p. record g { word_pos = p }) (rw add-zero (mod-eq_of_lt h))

one_later : (g : ChaCha) (k : ℕ) → (next_word 10 (later g k)).1 ≡ later g (suc k)
one_later g k =
    let e : ((g.word_pos + k) % 2 ^ 68 + 1) % 2 ^ 68 ≡ (g.word_pos + suc k) % 2 ^ 68 =
    mod-add-mod (g.word_pos + k) (2 ^ 68) 1 ∙ ap (λ n. n % 2 ^ 68) (omega arith) in
    ap (λ p. record g { word_pos = p }) e

words : (k : ℕ) (g : ChaCha) → g.word_pos < 2 ^ 68
    → word_bytes (to_le_bytes w32) (next_word 10) k g ≡ (words_from g.key g.stream g.word_pos k, later g k)
unfolding word_bytes words_from
words zero g h = ap (λ x. ([], x)) (sym (same_place g h))
words (suc k) g h =
    ap (λ before. (before.0 ++ to_le_bytes w32 (next_word 10 before.1).0, (next_word 10 before.1).1)) (words k g h)
    ∙ ap (λ x. (words_from g.key g.stream g.word_pos (suc k), x)) (one_later g k)

filled : (n : ℕ) (g : ChaCha) → g.word_pos < 2 ^ 68 → fill_via_u32 (next_word 10) n g ≡ (random_from g n, stream_after g n)
filled n g h = ap (λ all. (take n all.0, all.1)) (words (words_for n) g h)

pub filled_bytes : (bytes : List ℕ) (after : ChaCha) (n : ℕ) (g : ChaCha) → g.word_pos < 2 ^ 68
    → (bytes, after) ≡ fill_via_u32 (next_word 10) n g → bytes ≡ random_from g n
filled_bytes bytes after n g h e = ap (λ p. p.0) (e ∙ filled n g h)

pub filled_after : (bytes : List ℕ) (after : ChaCha) (n : ℕ) (g : ChaCha) → g.word_pos < 2 ^ 68
    → (bytes, after) ≡ fill_via_u32 (next_word 10) n g → after ≡ stream_after g n
filled_after bytes after n g h e = ap (λ p. p.1) (e ∙ filled n g h)

pub moved_within : (n : ℕ) (g : ChaCha) → (stream_after g n).word_pos < 2 ^ 68
moved_within n g = mod-lt (g.word_pos + words_for n) (lit< tt)
