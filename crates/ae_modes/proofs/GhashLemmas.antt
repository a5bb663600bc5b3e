-- A running GHASH.
use Rattle.std.proofs.Common.{◌≡◌, ℕ, zero, suc, ◌+◌, ◌-◌, ◌*◌, ◌/◌, ◌%◌, ◌≤◌, List, ◌++◌, bit_xor, length, replicate, take, refl, ap, ◌∙◌, arith}
use Rattle.std.proofs.lemmas.List.{take-replicate}
use Rattle.aes_modes.proofs.TextLemmas.{block_at-append}
use Rattle.aes_modes.specs.Modes.{block_at, number_of}
use Rattle.ae_modes.specs.Field.{product}
use Rattle.ae_modes.specs.Ghash.{ghash_blocks}

-- bytes behind the blocks don't count
pub ghash_blocks-append : (h : ℕ) (x y : List ℕ) (n : ℕ) → 16 * n ≤ length x → ghash_blocks h (x ++ y) n ≡ ghash_blocks h x n
unfolding ghash_blocks
ghash_blocks-append h x y zero fits = refl
ghash_blocks-append h x y (suc n) fits =
    rw (ghash_blocks-append h x y n (omega arith), block_at-append x y n (omega arith)) refl

-- one more block
pub ghash_blocks-next : (h : ℕ) (x : List ℕ) (n i next sum : ℕ) → sum ≡ ghash_blocks h x (n + i)
    → next ≡ product (bit_xor sum (number_of (block_at x (n + i)))) h → next ≡ ghash_blocks h x (n + (i + 1))
unfolding ghash_blocks
ghash_blocks-next h x n i next sum es en =
    let at : suc (n + i) ≡ n + (i + 1) = omega arith in
    en ∙ rw es (ap (ghash_blocks h x) at)

-- the zeros that fill a last block
pub zeros_taken : (count n : ℕ) → count ≡ n - 16 * (n / 16) → take {A = ℕ} ((16 - count % 16) % 16) (replicate 16 0) ≡ replicate ((16 - n % 16) % 16) 0
zeros_taken count n e =
    let room : ℕ = (16 - count % 16) % 16 in
    let same : room ≡ (16 - n % 16) % 16 = omega arith in
    take-replicate {X = ℕ} room 16 0 (omega arith) ∙ ap (λ (k : ℕ). replicate {A = ℕ} k 0) same
