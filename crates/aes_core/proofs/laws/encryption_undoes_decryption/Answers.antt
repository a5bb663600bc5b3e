use Rattle.aes_core.proofs.EncryptionLemmas.{redone}
use Rattle.aes_core.proofs.laws.encryption_undoes_decryption.Goals as goal

pub returns : goal.returns
returns c = redone
