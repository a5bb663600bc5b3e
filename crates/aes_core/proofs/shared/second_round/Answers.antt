use Rattle.std.proofs.Common.{arith}
use Rattle.aes_core.specs.Words.{word_bytes, block_bytes}
use Rattle.aes_core.proofs.SharedLemmas.{second_round_is}
use Rattle.aes_core.proofs.shared.second_round.Goals as goal

pub returns : goal.returns
unfolding word_bytes block_bytes
returns c = λ k b h.
    second_round_is k b c.args.start.now c.args.last _ _ _ _ _ c.to_be_bytes-first.result (omega arith) h
    c.to_be_bytes-first.ensures c.encrypt_3.ensures c.encrypt_0.ensures c.encrypt_3-2.ensures c.encrypt_2.ensures c.encrypt_1.ensures
