use Rattle.aes_core.specs.Words.{block_bytes}
use Rattle.aes_core.proofs.RoundLemmas.{add_key_is}
use Rattle.aes_core.proofs.rounds.add_key.Goals as goal

pub returns : goal.returns
unfolding block_bytes
returns c = add_key_is _ _ _ _ _ _ _ _
