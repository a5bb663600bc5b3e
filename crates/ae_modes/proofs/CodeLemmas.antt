-- A running CMAC.
use Rattle.std.proofs.Common.{◌≡◌, true, false, eqb, ◌∷◌, ℕ, zero, suc, ◌+◌, ◌-◌, ◌*◌, ◌<◌, ◌≤◌, List, ◌++◌, length, take, drop, replicate, refl, sym, ap, ◌∙◌, arith}
use Rattle.std.proofs.lemmas.Bool.Decides.{nat_tests}
use Rattle.std.proofs.lemmas.List.{drop_at, take_all, take-append-drop, length-take-le}
use Rattle.std.specs.Int.{w128, to_be_bytes}
use Rattle.aes_core.specs.Cipher.{cipher}
use Rattle.aes_modes.proofs.TextLemmas.{block_at-append}
use Rattle.aes_modes.specs.Modes.{block_at, xor_bytes, cbc_block}
use Rattle.ae_modes.specs.Cmac.{double_of, first_subkey, blocks_before, last_block, cmac}
use Rattle.ae_modes.specs.Code.{chain_value}

-- bytes behind the blocks don't count
pub chained-append : (key x y : List ℕ) (n : ℕ) → 16 * n ≤ length x → chain_value key (x ++ y) n ≡ chain_value key x n
unfolding chain_value
chained-append key x y zero fits = refl
chained-append key x y (suc n) fits =
    rw (chained-append key x y n (omega arith), block_at-append x y n (omega arith)) refl

-- one more block
pub chained-next : (key x vector next : List ℕ) (n i : ℕ) → vector ≡ chain_value key x (n + i)
    → next ≡ cipher key (xor_bytes vector (block_at x (n + i))) → next ≡ chain_value key x (n + (i + 1))
unfolding chain_value
chained-next key x vector next n i ev en =
    let at : suc (n + i) ≡ n + (i + 1) = omega arith in
    en ∙ rw ev (ap (chain_value key x) at)

-- the blocks of CBC encryption
cbc_is : (key m : List ℕ) (n : ℕ) → cbc_block key (replicate 16 0) m n ≡ chain_value key m (suc n)
unfolding cbc_block chain_value
cbc_is key m zero = refl
cbc_is key m (suc n) = ap (λ (v : List ℕ). cipher key (xor_bytes v (block_at m (suc n)))) (cbc_is key m n)

-- the last of them, where the last block is another
pub cmac_is : (key m vector last : List ℕ) → length last ≡ 16 → last ≡ last_block key (drop (16 * blocks_before m) m) → vector ≡ chain_value key m (blocks_before m)
    → cipher key (xor_bytes vector last) ≡ cmac key m
unfolding cmac chain_value
cmac_is key m vector last long el ev =
    let n : ℕ = blocks_before m in
    let front : List ℕ = take (16 * n) m in
    let within : 16 * n ≤ length m = omega arith in
    let width : length front ≡ 16 * n = length-take-le (16 * n) m within in
    let before : chain_value key (front ++ last) n ≡ vector =
    chained-append key front last n (omega arith)
    ∙ sym (chained-append key front (drop (16 * n) m) n (omega arith))
    ∙ ap (λ (z : List ℕ). chain_value key z n) (take-append-drop (16 * n) m) ∙ sym ev in
    let here : block_at (front ++ last) n ≡ last = ap (take 16) (drop_at front last (16 * n) width) ∙ take_all 16 last (omega arith) in
    sym (ap (λ (z : List ℕ). cbc_block key (replicate 16 0) (front ++ z) n) (sym el) ∙ cbc_is key (front ++ last) n ∙ rw (before, here) refl)

-- ---- the last block
pub last_whole : (key b bytes : List ℕ) (count subkey : ℕ) → count ≡ 16 → length bytes ≡ 16 → take count bytes ≡ b → subkey ≡ first_subkey key
    → xor_bytes bytes (to_be_bytes w128 subkey) ≡ last_block key b
unfolding last_block
last_whole key b bytes count subkey ec long eb es =
    let same : bytes ≡ b = sym (take_all count bytes (omega arith)) ∙ eb in
    let width : length b ≡ 16 = ap length (sym same) ∙ long in
    let whole : eqb (length b) 16 ≡ true = grind (arith, nat_tests) in
    rw (whole, same, es) refl

pub last_filled : (key b block : List ℕ) (count subkey : ℕ) → count < 16 → length b ≡ count → block ≡ b ++ 0x80 ∷ replicate (15 - count) 0
    → subkey ≡ first_subkey key → xor_bytes block (to_be_bytes w128 (double_of subkey)) ≡ last_block key b
unfolding last_block
last_filled key b block count subkey short width eb es =
    let part : eqb (length b) 16 ≡ false = grind (arith, nat_tests) in
    rw (part, eb, es, width) refl
