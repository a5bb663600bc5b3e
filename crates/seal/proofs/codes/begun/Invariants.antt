use Rattle.std.proofs.Common.{◌≡◌, ◌++◌, take, drop}
use Rattle.mac_digest.specs.Hmac.{xor_each}
use Rattle.seal.proofs.codes.begun.Given as goal

-- the bytes so far are xored, and the others stand
abbrev pub invariant-loop-byte : goal.invariant-loop-byte
invariant-loop-byte l = l.byte-items ≡ xor_each l.pad (take l.byte-index l.block) ++ drop l.byte-index l.block
