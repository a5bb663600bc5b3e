-- Blocks and the bytes that they make, one block more.
use Rattle.std.proofs.Common.{◌≡◌, ◌≤◌, ◌<◌, ◌+◌, ◌-◌, ◌*◌, ℕ, List, ◌++◌, length}
use Rattle.std.proofs.Common.{take, drop, ap, ◌∙◌, arith, length-drop, below_more}
use Rattle.std.proofs.lemmas.List.{drop_at, take_all, take-append-le, drop-append-le}
use Rattle.boards.specs.Image.{block_at}

-- the first blocks stay as they are
block_at-append : (bytes more : List ℕ) (at k : ℕ) → length bytes ≡ 1024 * at → k < at → block_at (bytes ++ more) k ≡ block_at bytes k
block_at-append bytes more at k long h =
    let room : 1024 * k ≤ length bytes = omega arith in
    let whole : 1024 ≤ length (drop (1024 * k) bytes) = omega (arith, length-drop (1024 * k) bytes) in
    ap (λ (l : List ℕ). take 1024 l) (drop-append-le (1024 * k) bytes more room) ∙ take-append-le 1024 (drop (1024 * k) bytes) more whole

pub join_more : (bytes : List ℕ) (blocks : ℕ → List ℕ) (at : ℕ) → length bytes ≡ 1024 * at → length (blocks at) ≡ 1024 → ((k : ℕ) → k < at → block_at bytes k ≡ blocks k) →
    (k : ℕ) → k < at + 1 → block_at (bytes ++ blocks at) k ≡ blocks k
join_more bytes blocks at long whole below =
    let fits : length (blocks at) ≤ 1024 = omega arith in
    below_more _ _ (λ k h. block_at-append bytes (blocks at) at k long h ∙ below k h) (ap (λ (l : List ℕ). take 1024 l)
    (drop_at bytes (blocks at) (1024 * at) long) ∙ take_all 1024 (blocks at) fits)

-- a piece of the image is its block
pub piece : (bytes block : List ℕ) (at : ℕ) → block ≡ take (1024 * at + 1024 - 1024 * at) (drop (1024 * at) bytes) → block ≡ block_at bytes at
piece bytes block at is =
    let one : 1024 * at + 1024 - 1024 * at ≡ 1024 = omega arith in
    is ∙ ap (λ n. take n (drop (1024 * at) bytes)) one
