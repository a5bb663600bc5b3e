use Rattle.std.proofs.Common.{refl}
use Rattle.aes_core.specs.KeyExpansion.{round_key}
use Rattle.aes_core.specs.Words.{block_bytes}
use Rattle.aes_core.proofs.rounds.key_of_round.Goals as goal

pub returns : goal.returns
unfolding block_bytes round_key
returns c = refl
