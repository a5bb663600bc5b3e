use Rattle.std.proofs.Common.{◌≡◌, ℕ, ◌+◌, List, ◌++◌}
use Rattle.ae_modes.specs.Cmac.{blocks_before}
use Rattle.ae_modes.specs.Code.{chain_value, HoldsMessage}
use Rattle.ae_modes.proofs.code.Cmac.vector_after.Given as goal

-- the vector after the blocks so far
abbrev pub invariant-loop-i : goal.invariant-loop-i
invariant-loop-i l = (key m : List ℕ) → HoldsMessage l.self key m → l.vector ≡ chain_value key (m ++ l.bytes) (blocks_before m + l.i)
