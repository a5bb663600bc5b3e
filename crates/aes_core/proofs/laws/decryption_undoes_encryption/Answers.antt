use Rattle.aes_core.proofs.LawLemmas.{undone}
use Rattle.aes_core.proofs.laws.decryption_undoes_encryption.Goals as goal

pub returns : goal.returns
returns c = undone
