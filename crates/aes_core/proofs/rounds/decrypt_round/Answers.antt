use Rattle.aes_core.specs.Words.{word_bytes, block_bytes}
use Rattle.aes_core.proofs.RoundLemmas.{decrypt_round_is}
use Rattle.aes_core.proofs.rounds.decrypt_round.Goals as goal

pub returns : goal.returns
unfolding word_bytes block_bytes
returns c =
    decrypt_round_is _ _ _ _ _ _ _ _ _ _ _ _ _ _ _ _
    c.to_be_bytes-a.ensures c.to_be_bytes-b.ensures c.to_be_bytes-c.ensures c.to_be_bytes-d.ensures
    c.decrypt_column-first.ensures c.decrypt_column-second.ensures c.decrypt_column-third.ensures c.decrypt_column-fourth.ensures
