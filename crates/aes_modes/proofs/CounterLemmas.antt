-- Counter mode by blocks and parts of blocks.
use Rattle.std.proofs.Common.{◌≡◌, ℕ, zero, suc, ◌+◌, ◌-◌, ◌*◌, ◌/◌, ◌%◌, ◌^◌, ◌<◌, ◌≤◌, List, [], ◌∷◌, ◌++◌, bit_xor, bit_and, length, take, drop, slice_index, refl, sym, ap, ◌∙◌, arith}
use Rattle.std.proofs.Math.Seq.{take-add}
use Rattle.std.proofs.lemmas.List.{drop-drop, drop_more, length-append, length-take, length-drop, length-take-le, drop_at, take_at}
use Rattle.std.specs.Int.{w128, to_be_bytes}
use Rattle.std.proofs.lemmas.Slice.{drop-put_mid}
use Rattle.std.proofs.lemmas.Nat.{and_mask, shr-shr}
use borrow.Rule.Slice.PartMut.{put_mid}
use Rattle.aes_core.specs.declared.key.Key.{Key}
use Rattle.aes_core.specs.declared.shared.SharedStart.{SharedStart}
use Rattle.aes_core.specs.Shared.{with_last, IsSharedStart}
use Rattle.aes_core.specs.Cipher.{cipher_rounds, cipher, cipher_from, inv_cipher, inv_cipher_from}
use Rattle.aes_core.specs.Transformations.{add_round_key}
use Rattle.aes_modes.specs.Modes.{xor_bytes, number_of, counter_block, ctr_from}

pub length-cipher : (key b : List ℕ) → length (cipher key b) ≡ 16
unfolding cipher cipher_from add_round_key
length-cipher key b = refl

pub length-inv_cipher : (key b : List ℕ) → length (inv_cipher key b) ≡ 16
unfolding inv_cipher inv_cipher_from add_round_key
length-inv_cipher key b = refl

-- a part of a sum is the sum of the parts
pub drop-xor_bytes : (n : ℕ) (xs ks : List ℕ) → n ≤ length xs → n ≤ length ks → drop n (xor_bytes xs ks) ≡ xor_bytes (drop n xs) (drop n ks)
unfolding xor_bytes
drop-xor_bytes zero xs ks h g = refl
drop-xor_bytes (suc n) [] ks h g = absurd (omega arith)
drop-xor_bytes (suc n) (x ∷ xs) [] h g = absurd (omega arith)
drop-xor_bytes (suc n) (x ∷ xs) (k ∷ ks) h g = drop-xor_bytes n xs ks (omega arith) (omega arith)

pub take-xor_bytes : (n : ℕ) (xs ks : List ℕ) → take n (xor_bytes xs ks) ≡ xor_bytes (take n xs) ks
unfolding xor_bytes
take-xor_bytes zero xs ks = refl
take-xor_bytes (suc n) [] ks = refl
take-xor_bytes (suc n) (x ∷ xs) [] = refl
take-xor_bytes (suc n) (x ∷ xs) (k ∷ ks) = ap (λ (z : List ℕ). bit_xor x k ∷ z) (take-xor_bytes n xs ks)

-- the bytes within one block
pub ctr_within : (key iv : List ℕ) (j skip i : ℕ) (xs : List ℕ) → i ≡ 16 * j + skip → skip + length xs ≤ 16
    → ctr_from key iv i xs ≡ xor_bytes xs (drop skip (cipher key (counter_block (number_of iv + j))))
unfolding ctr_from xor_bytes
ctr_within key iv j skip i [] e h = refl
ctr_within key iv j skip i (x ∷ xs) e h =
    let k : List ℕ = cipher key (counter_block (number_of iv + j)) in
    let q : i / 16 ≡ j = omega arith in
    let r : i % 16 ≡ skip = omega arith in
    let front : drop skip k ≡ slice_index k skip ∷ drop (skip + 1) k = drop_more k skip 0 (omega (arith, length-cipher key (counter_block (number_of iv + j)))) in
    rw (q, r, front, ctr_within key iv j (skip + 1) (suc i) xs (omega arith) (omega arith)) refl

-- more bytes
pub ctr_from-append : (key iv : List ℕ) (i : ℕ) (xs ys : List ℕ) → ctr_from key iv i (xs ++ ys) ≡ ctr_from key iv i xs ++ ctr_from key iv (i + length xs) ys
unfolding ctr_from
ctr_from-append key iv i [] ys = ap (λ (n : ℕ). ctr_from key iv n ys) (let e : i ≡ i + 0 = omega arith in e)
ctr_from-append key iv i (x ∷ xs) ys =
    ap (λ (z : List ℕ). bit_xor x (slice_index (cipher key (counter_block (number_of iv + i / 16))) (i % 16)) ∷ z)
    (ctr_from-append key iv (suc i) xs ys
    ∙ ap (λ (n : ℕ). ctr_from key iv (suc i) xs ++ ctr_from key iv n ys) (let e : suc i + length xs ≡ i + suc (length xs) = omega arith in e))

-- a counter that wrapped
pub counter_block-mod : (n : ℕ) → counter_block (n % 2 ^ 128) ≡ counter_block n
unfolding counter_block
counter_block-mod n =
    let e : n % 2 ^ 128 % 2 ^ 128 ≡ n % 2 ^ 128 = omega arith in ap (λ (k : ℕ). to_be_bytes w128 k) e

pub counter_block_below : (n : ℕ) → n < 2 ^ 128 → to_be_bytes w128 n ≡ counter_block n
unfolding counter_block
counter_block_below n h = let e : n ≡ n % 2 ^ 128 = omega arith in ap (λ (k : ℕ). to_be_bytes w128 k) e

-- a part of a block in the middle of others, and its sum
pub part_of_sum : (block input ks : List ℕ) (skip n : ℕ) → length block ≡ 16 → skip + length input ≤ 16 → n ≡ length input → length ks ≡ 16
    → take n (drop skip (xor_bytes (put_mid skip n block input) ks)) ≡ xor_bytes input (drop skip ks)
part_of_sum block input ks skip n long within width lk =
    let lp : length (put_mid skip n block input) ≡ 16 =
    omega (
      arith,
      length-append (take skip block) (input ++ drop n (drop skip block)),
      length-append input (drop n (drop skip block)),
      length-take skip block,
      length-drop n (drop skip block),
      length-drop skip block,
    ) in
    let back : drop skip (put_mid skip n block input) ≡ input ++ drop n (drop skip block) =
    drop_at (take skip block) (input ++ drop n (drop skip block)) skip (length-take-le skip block (omega arith)) in
    ap (take n) (drop-xor_bytes skip (put_mid skip n block input) ks (omega arith) (omega arith))
    ∙ take-xor_bytes n (drop skip (put_mid skip n block input)) (drop skip ks)
    ∙ ap (λ (z : List ℕ). xor_bytes z (drop skip ks)) (ap (take n) back ∙ take_at input (drop n (drop skip block)) n (sym width))

-- a message that grows by a piece
pub ctr_more : (key iv input piece out text : List ℕ) (p at end j skip : ℕ) → at ≤ end → end ≤ length input → piece ≡ take (end - at) (drop at input)
    → p + at ≡ 16 * j + skip → skip + (end - at) ≤ 16 → out ≡ ctr_from key iv p (take at input)
    → text ≡ xor_bytes piece (drop skip (cipher key (counter_block (number_of iv + j))))
    → out ++ text ≡ ctr_from key iv p (take end input)
ctr_more key iv input piece out text p at end j skip order within ep place fits eo et =
    let front : length (take at input) ≡ at = length-take-le at input (omega arith) in
    let width : length piece ≡ end - at = ap length ep ∙ length-take-le (end - at) (drop at input) (omega (arith, length-drop at input)) in
    let whole : take at input ++ piece ≡ take end input =
    rw ep (sym (take-add at (end - at) input) ∙ ap (λ (n : ℕ). take n input) (let e : at + (end - at) ≡ end = omega arith in e)) in
    rw (eo, et) (sym (ap (ctr_from key iv p) (sym whole) ∙ ctr_from-append key iv p (take at input) piece
    ∙ ap (λ (z : List ℕ). ctr_from key iv p (take at input) ++ z) (ctr_within key iv j skip (p + length (take at input)) piece (omega arith) (omega arith))))

-- the counter of block j + i
pub counter_block_at : (c s n j i : ℕ) → c ≡ (s + i) % 2 ^ 128 → s ≡ (n + j) % 2 ^ 128 → counter_block c ≡ counter_block (n + (j + i))
counter_block_at c s n j i ec es =
    let e : c ≡ (n + (j + i)) % 2 ^ 128 = omega arith in ap counter_block e ∙ counter_block-mod (n + (j + i))

-- what lies behind a piece that was stored
pub rest_more : (out before piece : List ℕ) (at k end : ℕ) → at + k ≡ end → length piece ≡ k → at ≤ length out → drop at out ≡ drop at before
    → drop end (put_mid at k out piece) ≡ drop end before
rest_more out before piece at k end e width room same =
    drop-put_mid at k out piece end (omega arith) room width
    ∙ ap (λ (n : ℕ). drop n out) (sym e) ∙ sym (swapped out) ∙ ap (drop k) same ∙ swapped before ∙ ap (λ (n : ℕ). drop n before) e where
      swapped : (xs : List ℕ) → drop k (drop at xs) ≡ drop (at + k) xs
      swapped xs = drop-drop k at xs

-- ---- counter blocks that differ in their last byte alone
pub with_own_last : (n : ℕ) → with_last (counter_block n) (bit_and n 0xff) ≡ counter_block n
unfolding with_last counter_block
with_own_last n =
    let e : bit_and n 0xff ≡ n % 2 ^ 128 % 256 = and_mask n 8 ∙ omega arith in
    ap (λ (z : ℕ). take 15 (to_be_bytes w128 (n % 2 ^ 128)) ++ z ∷ []) e

-- the bytes of a number but the last
front_bytes : ℕ → List ℕ
front_bytes q =
    q / 2 ^ 112 % 256 ∷ q / 2 ^ 104 % 256 ∷ q / 2 ^ 96 % 256 ∷ q / 2 ^ 88 % 256 ∷ q / 2 ^ 80 % 256 ∷ q / 2 ^ 72 % 256 ∷ q / 2 ^ 64 % 256 ∷ q / 2 ^ 56 % 256
    ∷ q / 2 ^ 48 % 256 ∷ q / 2 ^ 40 % 256 ∷ q / 2 ^ 32 % 256 ∷ q / 2 ^ 24 % 256 ∷ q / 2 ^ 16 % 256 ∷ q / 2 ^ 8 % 256 ∷ q % 256 ∷ []

joint : {a b : ℕ} {xs ys : List ℕ} → a ≡ b → xs ≡ ys → a ∷ xs ≡ b ∷ ys
joint ea es = cc

front_of : (n : ℕ) → take 15 (to_be_bytes w128 n) ≡ front_bytes (n / 2 ^ 8)
unfolding front_bytes
front_of n =
    joint (part 112) (joint (part 104) (joint (part 96) (joint (part 88) (joint (part 80) (joint (part 72)
    (joint (part 64) (joint (part 56) (joint (part 48) (joint (part 40) (joint (part 32) (joint (part 24) (joint (part 16) (joint (part 8) refl))))))))))))) where
      part : (k : ℕ) → n / 2 ^ (8 + k) % 256 ≡ n / 2 ^ 8 / 2 ^ k % 256
      part k = ap (λ (z : ℕ). z % 256) (sym (shr-shr n 8 k))

front_same : (m n : ℕ) → n ≡ (m + 1) % 2 ^ 128 → 0 < bit_and n 0xff → take 15 (counter_block m) ≡ take 15 (counter_block n)
unfolding counter_block
front_same m n e some =
    let last : 0 < n % 256 = rw (and_mask n 8) at some in
    let q : m % 2 ^ 128 / 2 ^ 8 ≡ n % 2 ^ 128 / 2 ^ 8 = omega arith in
    front_of (m % 2 ^ 128) ∙ ap front_bytes q ∙ sym (front_of (n % 2 ^ 128))

pub start_kept : (key : Key) (start : SharedStart) (m n : ℕ) → n ≡ (m + 1) % 2 ^ 128 → 0 < bit_and n 0xff → IsSharedStart key (counter_block m) start
    → IsSharedStart key (counter_block n) start
unfolding with_last
start_kept key start m n e some h =
    record {
      two_rounds = λ x p q r s t hx ep eq er es et.
          h.two_rounds x p q r s t hx ep eq er es et
          ∙ ap (λ (z : List ℕ). cipher_rounds key.words (z ++ x ∷ []) 2) (front_same m n e some);
    }
