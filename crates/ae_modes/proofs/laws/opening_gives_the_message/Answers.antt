use Rattle.std.proofs.Common.{refl}
use Rattle.ae_modes.specs.Gcm.{first_counter}
use Rattle.ae_modes.proofs.TextLemmas.{text_twice}
use Rattle.ae_modes.proofs.laws.opening_gives_the_message.Goals as goal

pub returns : goal.returns
returns c = λ key nonce tag_bits aad m. record { tag_is = refl; text_is = text_twice key (first_counter key nonce) 0 m }
