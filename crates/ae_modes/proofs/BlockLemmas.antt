-- Blocks of a message that grows by a piece.
use Rattle.std.proofs.Common.{◌≡◌, ◌∷◌, replicate, set, ℕ, suc, ◌+◌, ◌-◌, ◌*◌, ◌<◌, ◌≤◌, List, [], ◌++◌, length, take, drop, sym, ap, ◌∙◌, arith, append-nil}
use Rattle.std.proofs.lemmas.List.{drop-drop, drop-replicate, set_at, drop_all, drop_at, take_at, take_all, drop-append-le, length-take-le, length-drop}
use borrow.Rule.Slice.PartMut.{put_mid, post_of}
use Rattle.aes_modes.proofs.BlockLemmas.{take-append}
use Rattle.aes_modes.specs.Modes.{block_at}
use Rattle.ae_modes.specs.Waiting.{waiting_bytes}
use Rattle.ae_modes.specs.declared.waiting.Waiting.{Waiting}

-- a block that begins with what waits
pub first_block : (held input block : List ℕ) (count i : ℕ) → length held ≡ 16 → count ≤ 16 → i ≡ 0 → block ≡ take (16 - count) input
    → put_mid count (16 - count) held block ≡ block_at (take count held ++ input) i
first_block held input block count i long short none e =
    let front : length (take count held) ≡ count = length-take-le count held (omega arith) in
    let rest : post_of count (16 - count) held ≡ [] = drop_all (16 - count) (drop count held) (omega (arith, length-drop count held)) in
    let joined : take 16 (take count held ++ input) ≡ take count held ++ take (16 - count) input =
    take-append (take count held) input 16 (omega arith) ∙ ap (λ (k : ℕ). take count held ++ take (16 - k) input) front in
    rw (rest, append-nil, e, none) (sym joined)

-- a later block
pub later_block : (held input : List ℕ) (count i : ℕ) → length held ≡ 16 → count ≤ 16 → 0 < i
    → take 16 (drop (16 * i - count) input) ≡ block_at (take count held ++ input) i
later_block held input count i long short some =
    let front : length (take count held) ≡ count = length-take-le count held (omega arith) in
    let at : count + (16 * i - count) ≡ 16 * i = omega arith in
    let e : drop (16 * i) (take count held ++ input) ≡ drop (16 * i - count) input =
    ap (λ (n : ℕ). drop n (take count held ++ input)) (sym at)
    ∙ sym (drop-drop (16 * i - count) count (take count held ++ input)) ∙ ap (drop (16 * i - count)) (drop_at (take count held) input count front) in
    sym (ap (take 16) e)

-- what is left of a piece behind the blocks
pub behind_blocks : (held input copied tail : List ℕ) (count b k : ℕ) → length held ≡ 16 → count ≤ 16 → 0 < b
    → 16 * b ≤ count + length input → k ≡ count + length input - 16 * b
    → copied ≡ take (length input - (16 * b - count)) (drop (16 * b - count) input) → take k (copied ++ tail) ≡ drop (16 * b) (take count held ++ input)
behind_blocks held input copied tail count b k long short some within ek ec =
    let s : ℕ = 16 * b - count in
    let front : length (take count held) ≡ count = length-take-le count held (omega arith) in
    let at : count + s ≡ 16 * b = omega arith in
    let all : copied ≡ drop s input = ec ∙ take_all (length input - s) (drop s input) (omega (arith, length-drop s input)) in
    let width : length copied ≡ k = omega (arith, ap length all, length-drop s input) in
    let e : drop (16 * b) (take count held ++ input) ≡ drop s input =
    ap (λ (n : ℕ). drop n (take count held ++ input)) (sym at)
    ∙ sym (drop-drop s count (take count held ++ input)) ∙ ap (drop s) (drop_at (take count held) input count front) in
    take_at copied tail k width ∙ all ∙ sym e

-- block i of what waits and a piece is a block of the message with the piece
pub block_of_message : (m piece waiting block : List ℕ) (done i : ℕ) → 16 * done ≤ length m → waiting ≡ drop (16 * done) m
    → block ≡ block_at (waiting ++ piece) i → block ≡ block_at (m ++ piece) (done + i)
block_of_message m piece waiting block done i within ew eb =
    let at : 16 * done + 16 * i ≡ 16 * (done + i) = omega arith in
    eb ∙ ap (λ (w : List ℕ). block_at (w ++ piece) i) ew
    ∙ ap (take 16) (ap (drop (16 * i)) (sym (drop-append-le (16 * done) m piece within))
    ∙ drop-drop (16 * i) (16 * done) (m ++ piece) ∙ ap (λ (n : ℕ). drop n (m ++ piece)) at)

-- what waits behind the blocks of a message with a piece
pub waiting_of_message : (m piece waiting after : List ℕ) (done blocks all : ℕ) → 16 * done ≤ length m → waiting ≡ drop (16 * done) m
    → after ≡ drop (16 * blocks) (waiting ++ piece) → all ≡ done + blocks → after ≡ drop (16 * all) (m ++ piece)
waiting_of_message m piece waiting after done blocks all within ew ea en =
    let at : 16 * done + 16 * blocks ≡ 16 * all = omega arith in
    ea ∙ ap (λ (w : List ℕ). drop (16 * blocks) (w ++ piece)) ew
    ∙ ap (drop (16 * blocks)) (sym (drop-append-le (16 * done) m piece within))
    ∙ drop-drop (16 * blocks) (16 * done) (m ++ piece) ∙ ap (λ (n : ℕ). drop n (m ++ piece)) at

-- how many bytes wait behind the first n blocks
pub waiting_count : (w : Waiting) (m : List ℕ) (n : ℕ) → length w.bytes ≡ 16 → waiting_bytes w ≡ drop (16 * n) m → w.count ≡ length m - 16 * n
waiting_count w m n long e =
    let short : w.count ≤ length w.bytes = omega (arith, w.within) in
    omega (arith, ap length e, length-take-le w.count w.bytes short, length-drop (16 * n) m)

-- a one bit and zeros behind what waits
pub filled_block : (front waiting : List ℕ) (count : ℕ) → front ≡ waiting → length waiting ≡ count → count < 16
    → set (front ++ drop count (replicate 16 0)) count 0x80 ≡ waiting ++ 0x80 ∷ replicate (15 - count) 0
filled_block front waiting count e width short =
    let zeros : drop count (replicate 16 0) ≡ 0 ∷ replicate (15 - count) 0 =
    drop-replicate {X = ℕ} count 16 0 ∙ ap (λ (n : ℕ). replicate n 0) (let one : 16 - count ≡ suc (15 - count) = omega arith in one) in
    rw (e, zeros) (set_at waiting 0 (replicate (15 - count) 0) 0x80 count width)
