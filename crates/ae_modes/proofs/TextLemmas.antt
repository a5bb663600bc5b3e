-- GCM's counter mode by blocks and parts of blocks.
use Rattle.std.proofs.Common.{◌≡◌, ℕ, suc, ◌+◌, ◌-◌, ◌*◌, ◌/◌, ◌%◌, ◌^◌, ◌<◌, ◌≤◌, List, [], ◌∷◌, ◌++◌, bit_xor, bit_and, length, take, drop, slice_index, refl, sym, ap, ◌∙◌, arith}
use Rattle.std.proofs.Math.Seq.{take-add}
use Rattle.std.proofs.lemmas.List.{drop_more, length-drop, length-take-le}
use Rattle.std.proofs.lemmas.Nat.{and_mask}
use lib.Bits.{xor_assoc, xor_self, xor_zero_r}
use Rattle.aes_core.specs.Cipher.{cipher}
use Rattle.aes_core.specs.Shared.{IsSharedStart}
use Rattle.aes_core.specs.declared.key.Key.{Key}
use Rattle.aes_core.specs.declared.shared.SharedStart.{SharedStart}
use Rattle.aes_modes.proofs.CounterLemmas.{length-cipher, start_kept}
use Rattle.aes_modes.specs.Modes.{xor_bytes, counter_block}
use Rattle.ae_modes.specs.Gcm.{counter_after, text_from}

-- ---- counters
pub raised_is : (counter n low : ℕ) → low ≡ bit_and counter 0xffffffff → (counter - low) + bit_and (low + n) 0xffffffff ≡ counter_after counter n
unfolding counter_after
raised_is counter n low e =
    let last : low ≡ counter % 2 ^ 32 = e ∙ and_mask counter 32 in
    ap (λ (z : ℕ). counter - low + z) (and_mask (low + n) 32) ∙ omega arith

pub raised_none : (counter : ℕ) → counter_after counter 0 ≡ counter
unfolding counter_after
raised_none counter = omega arith

pub raised_below : (counter n : ℕ) → counter < 2 ^ 128 → counter_after counter n < 2 ^ 128
unfolding counter_after
raised_below counter n h = omega arith

raised_next : (counter n : ℕ) → counter < 2 ^ 128 → 0 < bit_and (counter_after counter (n + 1)) 0xff → counter_after counter (n + 1) ≡ (counter_after counter n + 1) % 2 ^ 128
unfolding counter_after
raised_next counter n h some =
    let last : 0 < counter_after counter (n + 1) % 256 = rw (and_mask (counter_after counter (n + 1)) 8) at some in
    omega arith

-- the next counter has the same start
pub start_goes_on : (key : Key) (start : SharedStart) (counter n next : ℕ) → counter < 2 ^ 128 → next ≡ counter_after counter (n + 1) → 0 < bit_and next 0xff
    → IsSharedStart key (counter_block (counter_after counter n)) start → IsSharedStart key (counter_block (counter_after counter (n + 1))) start
start_goes_on key start counter n next h e some is =
    let here : 0 < bit_and (counter_after counter (n + 1)) 0xff = rw e at some in
    start_kept key start (counter_after counter n) (counter_after counter (n + 1)) (raised_next counter n h here) here is

-- ---- pieces
-- the bytes within one block
text_within : (key : List ℕ) (counter j skip i : ℕ) (xs : List ℕ) → i ≡ 16 * j + skip → skip + length xs ≤ 16
    → text_from key counter i xs ≡ xor_bytes xs (drop skip (cipher key (counter_block (counter_after counter (1 + j)))))
unfolding text_from xor_bytes
text_within key counter j skip i [] e h = refl
text_within key counter j skip i (x ∷ xs) e h =
    let k : List ℕ = cipher key (counter_block (counter_after counter (1 + j))) in
    let q : i / 16 ≡ j = omega arith in
    let r : i % 16 ≡ skip = omega arith in
    let front : drop skip k ≡ slice_index k skip ∷ drop (skip + 1) k = drop_more k skip 0 (omega (arith, length-cipher key (counter_block (counter_after counter (1 + j))))) in
    rw (q, r, front, text_within key counter j (skip + 1) (suc i) xs (omega arith) (omega arith)) refl

-- more bytes
pub text_from-append : (key : List ℕ) (counter i : ℕ) (xs ys : List ℕ)
    → text_from key counter i (xs ++ ys) ≡ text_from key counter i xs ++ text_from key counter (i + length xs) ys
unfolding text_from
text_from-append key counter i [] ys = ap (λ (n : ℕ). text_from key counter n ys) (let e : i ≡ i + 0 = omega arith in e)
text_from-append key counter i (x ∷ xs) ys =
    ap (λ (z : List ℕ). bit_xor x (slice_index (cipher key (counter_block (counter_after counter (1 + i / 16)))) (i % 16)) ∷ z)
    (text_from-append key counter (suc i) xs ys
    ∙ ap (λ (n : ℕ). text_from key counter (suc i) xs ++ text_from key counter n ys) (let e : suc i + length xs ≡ i + suc (length xs) = omega arith in e))

pub length-text_from : (key : List ℕ) (counter i : ℕ) (xs : List ℕ) → length (text_from key counter i xs) ≡ length xs
unfolding text_from
length-text_from key counter i [] = refl
length-text_from key counter i (x ∷ xs) = omega (arith, length-text_from key counter (suc i) xs)

-- a message that grows by a piece
pub text_more : (key input piece out text : List ℕ) (counter p at end n j skip : ℕ) → at ≤ end → end ≤ length input → piece ≡ take (end - at) (drop at input)
    → p + at ≡ 16 * j + skip → n ≡ 1 + j → skip + (end - at) ≤ 16 → out ≡ text_from key counter p (take at input)
    → text ≡ xor_bytes piece (drop skip (cipher key (counter_block (counter_after counter n))))
    → out ++ text ≡ text_from key counter p (take end input)
text_more key input piece out text counter p at end n j skip order within ep place en fits eo et =
    let front : length (take at input) ≡ at = length-take-le at input (omega arith) in
    let width : length piece ≡ end - at = ap length ep ∙ length-take-le (end - at) (drop at input) (omega (arith, length-drop at input)) in
    let whole : take at input ++ piece ≡ take end input =
    rw ep (sym (take-add at (end - at) input) ∙ ap (λ (n : ℕ). take n input) (let e : at + (end - at) ≡ end = omega arith in e)) in
    rw (eo, et, en) (sym (ap (text_from key counter p) (sym whole) ∙ text_from-append key counter p (take at input) piece
    ∙ ap (λ (z : List ℕ). text_from key counter p (take at input) ++ z) (text_within key counter j skip (p + length (take at input)) piece (omega arith) (omega arith))))

-- ---- there and back
xor_back : (a b : ℕ) → bit_xor (bit_xor a b) b ≡ a
xor_back a b = xor_assoc a b b ∙ ap (bit_xor a) (xor_self b) ∙ xor_zero_r a

pub text_twice : (key : List ℕ) (counter i : ℕ) (m : List ℕ) → text_from key counter i (text_from key counter i m) ≡ m
unfolding text_from
text_twice key counter i [] = refl
text_twice key counter i (x ∷ xs) =
    rw (text_twice key counter (suc i) xs)
    (ap (λ (z : ℕ). z ∷ xs) (xor_back x (slice_index (cipher key (counter_block (counter_after counter (1 + i / 16)))) (i % 16))))
