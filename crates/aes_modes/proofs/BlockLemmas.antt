-- Blocks of a list, and the text of the first blocks.
use Rattle.std.proofs.Common.{get_or, inl, inr, ◌≡◌, ℕ, zero, suc, ◌+◌, ◌-◌, ◌*◌, ◌<◌, ◌≤◌, List, [], ◌∷◌, ◌++◌, bit_xor, length}
use Rattle.std.proofs.Common.{take, drop, refl, sym, ap, ◌∙◌, arith, add-one, append-nil, append_assoc}
use Rattle.std.proofs.lemmas.List.{drop-drop, drop_all, take_at, drop_at, length-take, length-take-le, length-drop, length-append, get_or-take, get_or-drop, get_or_past}
use Rattle.std.proofs.lemmas.Bool.{cases_lt}
use Rattle.std.proofs.lemmas.Slice.{take-put_mid, drop-put_mid}
use borrow.Rule.Slice.PartMut.{put_mid, post_of}
use Rattle.std.proofs.lemmas.Nat.{xor_mod, be_bytes_4}
use Rattle.std.specs.Int.{w32, w128, from_be_bytes, to_be_bytes}
use Rattle.aes_core.specs.Words.{word_bytes, block_of}
use Rattle.aes_core.proofs.ColumnLemmas.{xor_part}
use Rattle.aes_core.proofs.RoundLemmas.{block_written}
use Rattle.aes_core.proofs.WideLemmas.{be_bytes_16}
use Rattle.aes_modes.specs.Modes.{block_at, xor_bytes}
use Rattle.aes_modes.specs.Stream.{step_text, step_vector, vector_after, blocks_text}
use Rattle.aes_modes.specs.declared.modes.Mode.{Mode}
use Rattle.aes_modes.specs.declared.modes.Way.{Way}

joint : {a b : ℕ} {xs ys : List ℕ} → a ≡ b → xs ≡ ys → a ∷ xs ≡ b ∷ ys
joint ea es = cc

-- the bytes of a sum of numbers
bytes-bit_xor : (x y : ℕ) → to_be_bytes w128 (bit_xor x y) ≡ xor_bytes (to_be_bytes w128 x) (to_be_bytes w128 y)
unfolding xor_bytes
bytes-bit_xor x y =
    joint (xor_part x y 120) (joint (xor_part x y 112) (joint (xor_part x y 104) (joint (xor_part x y 96)
    (joint (xor_part x y 88) (joint (xor_part x y 80) (joint (xor_part x y 72) (joint (xor_part x y 64)
    (joint (xor_part x y 56) (joint (xor_part x y 48) (joint (xor_part x y 40) (joint (xor_part x y 32)
    (joint (xor_part x y 24) (joint (xor_part x y 16) (joint (xor_part x y 8) (joint (xor_mod x y 8) refl)))))))))))))))

-- the sum of two blocks, as numbers
pub xor_is : (a b : List ℕ) (x y z : ℕ) → length a ≡ 16 → length b ≡ 16 → ((i : ℕ) → get_or a i 0 < 256) → ((i : ℕ) → get_or b i 0 < 256)
    → x ≡ from_be_bytes w128 a → y ≡ from_be_bytes w128 b → z ≡ bit_xor x y → to_be_bytes w128 z ≡ xor_bytes a b
xor_is a b x y z la lb fa fb ex ey ez =
    ap (to_be_bytes w128) ez ∙ bytes-bit_xor x y
    ∙ ap (λ (l : List ℕ). xor_bytes l (to_be_bytes w128 y)) (be_bytes_16 a x la fa ex) ∙ ap (xor_bytes a) (be_bytes_16 b y lb fb ey)

-- the front of two lists joined, from within the second
pub take-append : (xs ys : List ℕ) (n : ℕ) → length xs ≤ n → take n (xs ++ ys) ≡ xs ++ take (n - length xs) ys
take-append [] ys n h = ap (λ (k : ℕ). take k ys) (let e : n ≡ n - 0 = omega arith in e)
take-append (x ∷ xs) ys zero h = absurd (omega arith)
take-append (x ∷ xs) ys (suc n) h =
    ap (λ (z : List ℕ). x ∷ z) (take-append xs ys n (omega arith) ∙ ap (λ (k : ℕ). xs ++ take k ys) (let e : n - length xs ≡ suc n - suc (length xs) = omega arith in e))

-- a block that begins with what is held
pub first_block : (held input block : List ℕ) (count i : ℕ) → length held ≡ 16 → count < 16 → i ≡ 0 → block ≡ take (16 - count) input
    → put_mid count (16 - count) held block ≡ block_at (take count held ++ input) i
first_block held input block count i long short none e =
    let front : length (take count held) ≡ count = length-take-le count held (omega arith) in
    let rest : post_of count (16 - count) held ≡ [] = drop_all (16 - count) (drop count held) (omega (arith, length-drop count held)) in
    let joined : take 16 (take count held ++ input) ≡ take count held ++ take (16 - count) input =
    take-append (take count held) input 16 (omega arith) ∙ ap (λ (k : ℕ). take count held ++ take (16 - k) input) front in
    rw (rest, append-nil, e, none) (sym joined)

-- a later block
pub later_block : (held input : List ℕ) (count i : ℕ) → length held ≡ 16 → count < 16 → 0 < i
    → take 16 (drop (16 * i - count) input) ≡ block_at (take count held ++ input) i
later_block held input count i long short some =
    let front : length (take count held) ≡ count = length-take-le count held (omega arith) in
    let at : count + (16 * i - count) ≡ 16 * i = omega arith in
    let e : drop (16 * i) (take count held ++ input) ≡ drop (16 * i - count) input =
    ap (λ (n : ℕ). drop n (take count held ++ input)) (sym at)
    ∙ sym (drop-drop (16 * i - count) count (take count held ++ input))
    ∙ ap (drop (16 * i - count)) (drop_at (take count held) input count front) in
    sym (ap (take 16) e)

-- one more block
pub blocks_text_next : (mode : Mode) (way : Way) (key v d out block : List ℕ) (i : ℕ) → block ≡ step_text mode way key (vector_after mode way key v d i) (block_at d i)
    → out ≡ blocks_text mode way key v d i → out ++ block ≡ blocks_text mode way key v d (i + 1)
unfolding blocks_text
blocks_text_next mode way key v d out block i eb eo = rw (eo, eb, add-one) refl

pub vector_after_next : (mode : Mode) (way : Way) (key v d w : List ℕ) (i : ℕ) → w ≡ step_vector mode way key (vector_after mode way key v d i) (block_at d i)
    → w ≡ vector_after mode way key v d (i + 1)
unfolding vector_after
vector_after_next mode way key v d w i e = rw (e, add-one) refl

-- a block stored behind the blocks before it
pub stored_front : (out block : List ℕ) (i k : ℕ) → length block ≡ 16 → 16 * i + 16 ≤ length out
    → take (16 * (i + 1)) (put_mid (16 * i) k out block) ≡ take (16 * i) out ++ block
stored_front out block i k long room = take-put_mid (16 * i) k out block (16 * (i + 1)) (omega arith) (omega arith)

pub stored_rest : (out before block : List ℕ) (i k : ℕ) → k ≡ 16 * i + 16 - 16 * i → length block ≡ 16 → 16 * i + 16 ≤ length out
    → drop (16 * i) out ≡ drop (16 * i) before → drop (16 * (i + 1)) (put_mid (16 * i) k out block) ≡ drop (16 * (i + 1)) before
stored_rest out before block i k width long room same =
    let at : 16 * i + 16 ≡ 16 * (i + 1) = omega arith in
    drop-put_mid (16 * i) k out block (16 * (i + 1)) (omega arith) (omega arith) (omega arith)
    ∙ ap (λ (n : ℕ). drop n out) (sym at) ∙ sym (drop-drop 16 (16 * i) out) ∙ ap (drop 16) same
    ∙ drop-drop 16 (16 * i) before ∙ ap (λ (n : ℕ). drop n before) at

-- ---- a block and four words
-- the bytes of a sum of words
bytes-word_xor : (x y : ℕ) → to_be_bytes w32 (bit_xor x y) ≡ xor_bytes (to_be_bytes w32 x) (to_be_bytes w32 y)
unfolding xor_bytes
bytes-word_xor x y = joint (xor_part x y 24) (joint (xor_part x y 16) (joint (xor_part x y 8) (joint (xor_mod x y 8) refl)))

-- the sum of four bytes and a word
pub add_word_is : (a : List ℕ) (x y : ℕ) → length a ≡ 4 → ((i : ℕ) → get_or a i 0 < 256) → x ≡ from_be_bytes w32 a
    → to_be_bytes w32 (bit_xor x y) ≡ xor_bytes a (word_bytes y)
unfolding word_bytes
add_word_is a x y long fits e =
    bytes-word_xor x y ∙ ap (λ (l : List ℕ). xor_bytes l (to_be_bytes w32 y)) (be_bytes_4 a x long fits e)

-- the bytes of a piece
pub piece_fits : (xs ys : List ℕ) (at n : ℕ) → ys ≡ take n (drop at xs) → ((i : ℕ) → get_or xs i 0 < 256) → (i : ℕ) → get_or ys i 0 < 256
piece_fits xs ys at n e fits i = elim (cases_lt i n) [
  | inl lt ↦
      let here : get_or ys i 0 ≡ get_or xs (at + i) 0 =
      ap (λ (l : List ℕ). get_or l i 0) e ∙ get_or-take n (drop at xs) i 0 lt ∙ get_or-drop at xs i 0 in
      omega (arith, fits (at + i))
  | inr ge ↦
      let short : length ys ≤ i = omega (arith, ap length e, length-take n (drop at xs)) in
      rw (get_or_past ys i 0 short) (omega arith)
]

-- a piece stored behind what was stored
put_behind : (n k : ℕ) (done rest piece : List ℕ) → length done ≡ n → put_mid n k (done ++ rest) piece ≡ (done ++ piece) ++ drop k rest
put_behind n k done rest piece e =
    let front : take n (done ++ rest) ≡ done = take_at done rest n e in
    let back : drop n (done ++ rest) ≡ rest = drop_at done rest n e in
    rw (front, back) (sym (append_assoc done piece (drop k rest)))

-- four words written into a block
pub four_written : (out p q r s : List ℕ) (k : ℕ) → length out ≡ 16 → length p ≡ 4 → length q ≡ 4 → length r ≡ 4 → length s ≡ 4 → k ≡ 4
    → put_mid 12 k (put_mid 8 4 (put_mid 4 4 (put_mid 0 4 out p) q) r) s ≡ p ++ (q ++ (r ++ s))
four_written out p q r s k lo lp lq lr ls ek =
    let pq : length (p ++ q) ≡ 8 = omega (arith, length-append p q) in
    let pqr : length ((p ++ q) ++ r) ≡ 12 = omega (arith, length-append (p ++ q) r) in
    let one : put_mid 0 4 out p ≡ p ++ drop 4 out = put_behind 0 4 [] out p refl in
    let two : put_mid 4 4 (p ++ drop 4 out) q ≡ (p ++ q) ++ drop 4 (drop 4 out) = put_behind 4 4 p (drop 4 out) q lp in
    let three : put_mid 8 4 ((p ++ q) ++ drop 4 (drop 4 out)) r ≡ ((p ++ q) ++ r) ++ drop 4 (drop 4 (drop 4 out)) = put_behind 8 4 (p ++ q) (drop 4 (drop 4 out)) r pq in
    let four : put_mid 12 4 (((p ++ q) ++ r) ++ drop 4 (drop 4 (drop 4 out))) s ≡ (((p ++ q) ++ r) ++ s) ++ drop 4 (drop 4 (drop 4 (drop 4 out))) =
    put_behind 12 4 ((p ++ q) ++ r) (drop 4 (drop 4 (drop 4 out))) s pqr in
    let none : drop 4 (drop 4 (drop 4 (drop 4 out))) ≡ [] =
    drop_all 4 (drop 4 (drop 4 (drop 4 out))) (omega (arith, length-drop 4 out, length-drop 4 (drop 4 out), length-drop 4 (drop 4 (drop 4 out)))) in
    ap (λ (z : List ℕ). put_mid 12 k (put_mid 8 4 (put_mid 4 4 z q) r) s) one
    ∙ ap (λ (z : List ℕ). put_mid 12 k (put_mid 8 4 z r) s) two
    ∙ ap (λ (z : List ℕ). put_mid 12 k z s) three
    ∙ ap (λ (j : ℕ). put_mid 12 j (((p ++ q) ++ r) ++ drop 4 (drop 4 (drop 4 out))) s) ek
    ∙ four ∙ ap (λ (z : List ℕ). (((p ++ q) ++ r) ++ s) ++ z) none ∙ append-nil (((p ++ q) ++ r) ++ s)
    ∙ append_assoc (p ++ q) r s ∙ append_assoc p q (r ++ s)

-- the sum of a block and four words, word by word
pub four_sums : (f : ℕ → ℕ) (b : List ℕ) (w x y z : ℕ)
    → b ≡ f 0 ∷ f 1 ∷ f 2 ∷ f 3 ∷ f 4 ∷ f 5 ∷ f 6 ∷ f 7 ∷ f 8 ∷ f 9 ∷ f 10 ∷ f 11 ∷ f 12 ∷ f 13 ∷ f 14 ∷ f 15 ∷ []
    → xor_bytes (take 4 (drop 0 b)) (word_bytes w) ++ (xor_bytes (take 4 (drop 4 b)) (word_bytes x)
    ++ (xor_bytes (take 4 (drop 8 b)) (word_bytes y) ++ xor_bytes (take 4 (drop 12 b)) (word_bytes z))) ≡ xor_bytes b (block_of w x y z)
unfolding xor_bytes word_bytes
four_sums f b w x y z e = rw e refl

pub sum_written : (b out p q r s : List ℕ) (w x y z k : ℕ) → length b ≡ 16 → length out ≡ 16 → length p ≡ 4 → length q ≡ 4 → length r ≡ 4 → length s ≡ 4 → k ≡ 4
    → p ≡ xor_bytes (take 4 (drop 0 b)) (word_bytes w) → q ≡ xor_bytes (take 4 (drop 4 b)) (word_bytes x)
    → r ≡ xor_bytes (take 4 (drop 8 b)) (word_bytes y) → s ≡ xor_bytes (take 4 (drop 12 b)) (word_bytes z)
    → put_mid 12 k (put_mid 8 4 (put_mid 4 4 (put_mid 0 4 out p) q) r) s ≡ xor_bytes b (block_of w x y z)
sum_written b out p q r s w x y z k lb lo lp lq lr ls ek ep eq er es =
    four_written out p q r s k lo lp lq lr ls ek ∙ rw (ep, eq, er, es) (four_sums (λ i. get_or b i 0) b w x y z (block_written b lb))
