use Rattle.std.proofs.Common.{◌≡◌, take}
use Rattle.std.specs.Prelude.{◌==◌}
use Rattle.region_plan.specs.Parts.{are_zero}
use Rattle.region_plan.proofs.bytes.all_zero.Given as goal

-- the bits of the bytes so far
abbrev pub invariant-loop-byte : goal.invariant-loop-byte
invariant-loop-byte l = (l.bits == 0) ≡ are_zero (take l.byte-index l.bytes)
