-- The first two rounds of blocks that differ in their last byte alone.
use Rattle.std.proofs.Common.{◌≡◌, ℕ, suc, ◌<◌, List, [], ◌∷◌, length, bit_xor, slice_index, refl, sym, ap, ◌∙◌}
use Rattle.aes_core.specs.declared.key.Key.{Key}
use Rattle.aes_core.specs.declared.shared.SharedStart.{SharedStart}
use Rattle.aes_core.specs.Cipher.{cipher_rounds}
use Rattle.aes_core.specs.Columns.{mixed_0, mixed_1, mixed_2, mixed_3}
use Rattle.aes_core.specs.Field.{substitute}
use Rattle.aes_core.specs.KeyExpansion.{round_key}
use Rattle.aes_core.specs.Shared.{with_last, IsSharedStart}
use Rattle.aes_core.specs.Transformations.{sub_bytes, shift_rows, mix_column, mix_columns, add_round_key}
use Rattle.aes_core.specs.Words.{word_bytes, block_of, block_bytes, add_columns}
use Rattle.aes_core.proofs.RoundLemmas.{four_words, encrypt_round_is, block_written}

-- a round over the bytes of a state
round_of_bytes : (a0 a1 a2 a3 b0 b1 b2 b3 c0 c1 c2 c3 d0 d1 d2 d3 k l m n p q r s : ℕ)
    → word_bytes p ≡ add_columns (mix_column (substitute a0) (substitute b1) (substitute c2) (substitute d3)) (word_bytes k)
    → word_bytes q ≡ add_columns (mix_column (substitute b0) (substitute c1) (substitute d2) (substitute a3)) (word_bytes l)
    → word_bytes r ≡ add_columns (mix_column (substitute c0) (substitute d1) (substitute a2) (substitute b3)) (word_bytes m)
    → word_bytes s ≡ add_columns (mix_column (substitute d0) (substitute a1) (substitute b2) (substitute c3)) (word_bytes n)
    → block_of p q r s ≡ add_round_key (mix_columns (shift_rows (sub_bytes
    (a0 ∷ a1 ∷ a2 ∷ a3 ∷ b0 ∷ b1 ∷ b2 ∷ b3 ∷ c0 ∷ c1 ∷ c2 ∷ c3 ∷ d0 ∷ d1 ∷ d2 ∷ d3 ∷ [])))) (block_of k l m n)
unfolding add_round_key mix_columns mix_column shift_rows sub_bytes word_bytes
round_of_bytes a0 a1 a2 a3 b0 b1 b2 b3 c0 c1 c2 c3 d0 d1 d2 d3 k l m n p q r s ep eq er es = four_words p q r s _ _ _ _ ep eq er es

-- a round key changes the last byte by its own
written_with_last : (f : ℕ → ℕ) (k : List ℕ) (x : ℕ) (b : List ℕ)
    → b ≡ f 0 ∷ f 1 ∷ f 2 ∷ f 3 ∷ f 4 ∷ f 5 ∷ f 6 ∷ f 7 ∷ f 8 ∷ f 9 ∷ f 10 ∷ f 11 ∷ f 12 ∷ f 13 ∷ f 14 ∷ f 15 ∷ []
    → add_round_key (with_last b x) k ≡ with_last (add_round_key b k) (bit_xor x (slice_index k 15))
unfolding add_round_key with_last
written_with_last f k x b e = rw e refl

add_round_key-with_last : (b k : List ℕ) (x : ℕ) → length b ≡ 16
    → add_round_key (with_last b x) k ≡ with_last (add_round_key b k) (bit_xor x (slice_index k 15))
add_round_key-with_last b k x long = written_with_last (λ i. slice_index b i) k x b (block_written b long)

words_with_last : (a b c d y : ℕ) → with_last (block_of a b c d) y
    ≡ slice_index (word_bytes a) 0 ∷ slice_index (word_bytes a) 1 ∷ slice_index (word_bytes a) 2 ∷ slice_index (word_bytes a) 3
    ∷ slice_index (word_bytes b) 0 ∷ slice_index (word_bytes b) 1 ∷ slice_index (word_bytes b) 2 ∷ slice_index (word_bytes b) 3
    ∷ slice_index (word_bytes c) 0 ∷ slice_index (word_bytes c) 1 ∷ slice_index (word_bytes c) 2 ∷ slice_index (word_bytes c) 3
    ∷ slice_index (word_bytes d) 0 ∷ slice_index (word_bytes d) 1 ∷ slice_index (word_bytes d) 2 ∷ y ∷ []
unfolding with_last word_bytes
words_with_last a b c d y = refl

last_of_words : (a b c d : ℕ) → slice_index (block_of a b c d) 15 ≡ slice_index (word_bytes d) 3
unfolding word_bytes
last_of_words a b c d = refl

-- the state before the first round, with the last byte x
start_with_last : (w blk plain k0 state : List ℕ) (x : ℕ) → length blk ≡ 16 → block_bytes plain ≡ blk → block_bytes k0 ≡ round_key w 0
    → block_bytes state ≡ add_round_key (block_bytes plain) (block_bytes k0)
    → with_last (block_bytes state) (bit_xor x (slice_index (word_bytes (slice_index k0 3)) 3)) ≡ cipher_rounds w (with_last blk x) 0
unfolding cipher_rounds block_bytes
start_with_last w blk plain k0 state x long ep ek es =
    let last : slice_index (round_key w 0) 15 ≡ slice_index (word_bytes (slice_index k0 3)) 3 =
    ap (λ (z : List ℕ). slice_index z 15) (sym ek) ∙ last_of_words (slice_index k0 0) (slice_index k0 1) (slice_index k0 2) (slice_index k0 3) in
    sym (add_round_key-with_last blk (round_key w 0) x long ∙ rw (last, es, ep, ek) refl)

-- the state after the first round
first_round_is : (w blk plain k0 k1 state : List ℕ) (x f p b1 c1 d1 : ℕ) → length blk ≡ 16 → block_bytes plain ≡ blk → block_bytes k0 ≡ round_key w 0
    → block_bytes k1 ≡ round_key w 1 → block_bytes state ≡ add_round_key (block_bytes plain) (block_bytes k0)
    → word_bytes (bit_xor f p) ≡ add_columns (mix_column (substitute (slice_index (word_bytes (slice_index state 0)) 0)) (substitute (slice_index (word_bytes (slice_index state 1)) 1))
    (substitute (slice_index (word_bytes (slice_index state 2)) 2)) (substitute (bit_xor x (slice_index (word_bytes (slice_index k0 3)) 3)))) (word_bytes (slice_index k1 0))
    → word_bytes b1 ≡ add_columns (mix_column (substitute (slice_index (word_bytes (slice_index state 1)) 0)) (substitute (slice_index (word_bytes (slice_index state 2)) 1))
    (substitute (slice_index (word_bytes (slice_index state 3)) 2)) (substitute (slice_index (word_bytes (slice_index state 0)) 3))) (word_bytes (slice_index k1 1))
    → word_bytes c1 ≡ add_columns (mix_column (substitute (slice_index (word_bytes (slice_index state 2)) 0)) (substitute (slice_index (word_bytes (slice_index state 3)) 1))
    (substitute (slice_index (word_bytes (slice_index state 0)) 2)) (substitute (slice_index (word_bytes (slice_index state 1)) 3))) (word_bytes (slice_index k1 2))
    → word_bytes d1 ≡ add_columns (mix_column (substitute (slice_index (word_bytes (slice_index state 3)) 0)) (substitute (slice_index (word_bytes (slice_index state 0)) 1))
    (substitute (slice_index (word_bytes (slice_index state 1)) 2)) (substitute (slice_index (word_bytes (slice_index state 2)) 3))) (word_bytes (slice_index k1 3))
    → block_of (bit_xor f p) b1 c1 d1 ≡ cipher_rounds w (with_last blk x) 1
unfolding cipher_rounds block_bytes
first_round_is w blk plain k0 k1 state x f p b1 c1 d1 long ep ek0 ek1 es ea eb ec ed =
    round_of_bytes _ _ _ _ _ _ _ _ _ _ _ _ _ _ _ _ _ _ _ _ (bit_xor f p) b1 c1 d1 ea eb ec ed
    ∙ ap (λ (z : List ℕ). add_round_key (mix_columns (shift_rows (sub_bytes z))) (block_bytes k1))
    (sym (words_with_last (slice_index state 0) (slice_index state 1) (slice_index state 2) (slice_index state 3) (bit_xor x (slice_index (word_bytes (slice_index k0 3)) 3)))
    ∙ start_with_last w blk plain k0 state x long ep ek0 es)
    ∙ ap (λ (z : List ℕ). add_round_key (mix_columns (shift_rows (sub_bytes (cipher_rounds w (with_last blk x) 0)))) z) ek1

-- the state after the second round
second_round_from : (w blk k2 : List ℕ) (x a b c d p q r s : ℕ) (E F G : List ℕ) → block_bytes k2 ≡ round_key w 2
    → block_of a b c d ≡ cipher_rounds w (with_last blk x) 1
    → E ≡ word_bytes b → F ≡ word_bytes c → G ≡ word_bytes d
    → word_bytes p ≡ add_columns (mix_column (substitute (slice_index (word_bytes a) 0)) (substitute (slice_index E 1)) (substitute (slice_index F 2))
    (substitute (slice_index G 3))) (word_bytes (slice_index k2 0))
    → word_bytes q ≡ add_columns (mix_column (substitute (slice_index E 0)) (substitute (slice_index F 1)) (substitute (slice_index G 2))
    (substitute (slice_index (word_bytes a) 3))) (word_bytes (slice_index k2 1))
    → word_bytes r ≡ add_columns (mix_column (substitute (slice_index F 0)) (substitute (slice_index G 1)) (substitute (slice_index (word_bytes a) 2))
    (substitute (slice_index E 3))) (word_bytes (slice_index k2 2))
    → word_bytes s ≡ add_columns (mix_column (substitute (slice_index G 0)) (substitute (slice_index (word_bytes a) 1)) (substitute (slice_index E 2))
    (substitute (slice_index F 3))) (word_bytes (slice_index k2 3))
    → block_of p q r s ≡ cipher_rounds w (with_last blk x) 2
unfolding cipher_rounds block_bytes
second_round_from w blk k2 x a b c d p q r s E F G ek before eE eF eG ep eq er es =
    encrypt_round_is a b c d _ _ _ _ p q r s (word_bytes a) E F G refl eE eF eG ep eq er es
    ∙ ap (λ (z : List ℕ). add_round_key (mix_columns (shift_rows (sub_bytes z))) (block_bytes k2)) before
    ∙ ap (λ (z : List ℕ). add_round_key (mix_columns (shift_rows (sub_bytes (cipher_rounds w (with_last blk x) 1)))) z) ek

pub shared_start_is : (key : Key) (start : SharedStart) (blk plain k0 k1 k2 state A B C D L E F G : List ℕ) (b1 c1 d1 : ℕ) → length blk ≡ 16 → block_bytes plain ≡ blk
    → block_bytes k0 ≡ round_key key.words 0 → block_bytes k1 ≡ round_key key.words 1 → block_bytes k2 ≡ round_key key.words 2
    → block_bytes state ≡ add_round_key (block_bytes plain) (block_bytes k0)
    → A ≡ word_bytes (slice_index state 0) → B ≡ word_bytes (slice_index state 1) → C ≡ word_bytes (slice_index state 2) → D ≡ word_bytes (slice_index state 3)
    → L ≡ word_bytes (slice_index k0 3) → start.last_key ≡ slice_index L 3
    → word_bytes b1 ≡ add_columns (mix_column (substitute (slice_index B 0)) (substitute (slice_index C 1)) (substitute (slice_index D 2)) (substitute (slice_index A 3)))
    (word_bytes (slice_index k1 1))
    → word_bytes c1 ≡ add_columns (mix_column (substitute (slice_index C 0)) (substitute (slice_index D 1)) (substitute (slice_index A 2)) (substitute (slice_index B 3)))
    (word_bytes (slice_index k1 2))
    → word_bytes d1 ≡ add_columns (mix_column (substitute (slice_index D 0)) (substitute (slice_index A 1)) (substitute (slice_index B 2)) (substitute (slice_index C 3)))
    (word_bytes (slice_index k1 3))
    → E ≡ word_bytes b1 → F ≡ word_bytes c1 → G ≡ word_bytes d1
    → ((d p : ℕ) → word_bytes p ≡ mixed_3 (substitute d)
    → word_bytes (bit_xor start.first p) ≡ add_columns (mix_column (substitute (slice_index A 0)) (substitute (slice_index B 1)) (substitute (slice_index C 2)) (substitute d))
    (word_bytes (slice_index k1 0)))
    → ((a p : ℕ) → word_bytes p ≡ mixed_0 (substitute a)
    → word_bytes (bit_xor (slice_index start.second 0) p) ≡ add_columns (mix_column (substitute a) (substitute (slice_index E 1)) (substitute (slice_index F 2))
    (substitute (slice_index G 3))) (word_bytes (slice_index k2 0)))
    → ((d p : ℕ) → word_bytes p ≡ mixed_3 (substitute d)
    → word_bytes (bit_xor (slice_index start.second 1) p) ≡ add_columns (mix_column (substitute (slice_index E 0)) (substitute (slice_index F 1)) (substitute (slice_index G 2))
    (substitute d)) (word_bytes (slice_index k2 1)))
    → ((c p : ℕ) → word_bytes p ≡ mixed_2 (substitute c)
    → word_bytes (bit_xor (slice_index start.second 2) p) ≡ add_columns (mix_column (substitute (slice_index F 0)) (substitute (slice_index G 1)) (substitute c)
    (substitute (slice_index E 3))) (word_bytes (slice_index k2 2)))
    → ((b p : ℕ) → word_bytes p ≡ mixed_1 (substitute b)
    → word_bytes (bit_xor (slice_index start.second 3) p) ≡ add_columns (mix_column (substitute (slice_index G 0)) (substitute b) (substitute (slice_index E 2))
    (substitute (slice_index F 3))) (word_bytes (slice_index k2 3)))
    → IsSharedStart key blk start
shared_start_is key start blk plain k0 k1 k2 state A B C D L E F G b1 c1 d1 long ep ek0 ek1 ek2 es eA eB eC eD eL el eb ec ed eE eF eG ef e0 e1 e2 e3 =
    record {
      two_rounds = λ x p q r s t hx hp hq hr hs ht.
          second_round_from key.words blk k2 x (bit_xor start.first p) b1 c1 d1 (bit_xor (slice_index start.second 0) q) (bit_xor (slice_index start.second 1) r)
          (bit_xor (slice_index start.second 2) s) (bit_xor (slice_index start.second 3) t) E F G ek2
          (first_round_is key.words blk plain k0 k1 state x start.first p b1 c1 d1 long ep ek0 ek1 es
          (rw (eA, eB, eC, el, eL) at (ef (bit_xor x start.last_key) p hp))
          (rw (eA, eB, eC, eD) at eb) (rw (eA, eB, eC, eD) at ec) (rw (eA, eB, eC, eD) at ed))
          eE eF eG (e0 _ q hq) (e1 _ r hr) (e2 _ s hs) (e3 _ t ht);
    }

-- the second round from what is shared
pub second_round_is : (key : Key) (blk : List ℕ) (start : SharedStart) (x p q r s t : ℕ) (B : List ℕ) → x < 256 → IsSharedStart key blk start
    → B ≡ word_bytes (bit_xor start.first p) → word_bytes p ≡ mixed_3 (substitute (bit_xor x start.last_key))
    → word_bytes q ≡ mixed_0 (substitute (slice_index B 0)) → word_bytes r ≡ mixed_3 (substitute (slice_index B 3))
    → word_bytes s ≡ mixed_2 (substitute (slice_index B 2)) → word_bytes t ≡ mixed_1 (substitute (slice_index B 1))
    → block_of (bit_xor (slice_index start.second 0) q) (bit_xor (slice_index start.second 1) r)
    (bit_xor (slice_index start.second 2) s) (bit_xor (slice_index start.second 3) t) ≡ cipher_rounds key.words (with_last blk x) 2
second_round_is key blk start x p q r s t B hx h eB ep eq er es et =
    h.two_rounds x p q r s t hx ep (rw eB at eq) (rw eB at er) (rw eB at es) (rw eB at et)

-- one more round
pub round_more : (w b s t k : List ℕ) (n : ℕ) → s ≡ cipher_rounds w b n → t ≡ add_round_key (mix_columns (shift_rows (sub_bytes s))) k → k ≡ round_key w (suc n)
    → t ≡ cipher_rounds w b (suc n)
unfolding cipher_rounds
round_more w b s t k n e et ek = rw (et, e, ek) refl
