use Rattle.std.proofs.Common.{refl, ap, ◌∙◌}
use Rattle.aes_modes.specs.Modes.{number_of}
use Rattle.ae_modes.specs.Cmac.{first_subkey, double_of}
use Rattle.ae_modes.specs.Code.{chain_value}
use Rattle.ae_modes.proofs.code.Cmac.new.Goals as goal

pub returns : goal.returns
unfolding first_subkey chain_value
returns c = record {
  key_is = refl;
  subkey_is = c.doubled.ensures ∙ ap double_of (c.number_of_block.ensures ∙ ap number_of c.encrypt_block.ensures);
  vector_is = refl;
  waiting_are = c.none_waiting.ensures;
}
