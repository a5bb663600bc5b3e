use Rattle.std.proofs.Common.{arith}
use Rattle.mac_digest.proofs.BlockLemmas.{xor_next}
use Rattle.seal.proofs.codes.begun.Goals as goal

pub loop-byte-preserved : goal.loop-byte-preserved
loop-byte-preserved c =
    xor_next c.args.pad c.args.block.now c.loop-byte.byte-items c.loop-byte.byte-index (omega arith) c.loop-byte.invariant
