use Rattle.aes_modes.proofs.LawLemmas.{undone}
use Rattle.aes_modes.proofs.laws.decryption_undoes_encryption.Goals as goal

pub returns : goal.returns
returns c = undone
