use Rattle.std.proofs.Common.{◌≡◌, ℕ, ◌+◌, ◌/◌, List, ◌++◌, length}
use Rattle.ae_modes.specs.Absorbs.{Absorbs}
use Rattle.ae_modes.specs.Ghash.{ghash_blocks}
use Rattle.ae_modes.proofs.ghash.Ghash.sum_after.Given as goal

-- the sum of the blocks so far
abbrev pub invariant-loop-i : goal.invariant-loop-i
invariant-loop-i l = (h : ℕ) (x : List ℕ) → Absorbs l.self h x → l.sum ≡ ghash_blocks h (x ++ l.bytes) (length x / 16 + l.i)
