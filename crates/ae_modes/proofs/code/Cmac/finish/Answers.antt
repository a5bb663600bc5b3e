use Rattle.std.proofs.Common.{◌∙◌, ap, List, ℕ, refl, rules, length, ◌≡◌}
use Rattle.aes_core.specs.Cipher.{cipher}
use Rattle.ae_modes.specs.Code.{chain_value}
use Rattle.ae_modes.proofs.CodeLemmas.{cmac_is}
use Rattle.ae_modes.proofs.code.Cmac.finish.Goals as goal

pub returns-clause-code : goal.returns-clause-code
returns-clause-code c = λ key m is.
    let long : length c.last_block-last.result ≡ 16 = search rules in
    c.encrypt_block.ensures
    ∙ ap (λ (k : List ℕ). cipher k c.xor-code.result) is.key_is
    ∙ ap (cipher key) c.xor-code.ensures
    ∙ cmac_is key m c.args.self.now.vector c.last_block-last.result long (c.last_block-last.ensures key m is) is.vector_is

pub returns-clause-started : goal.returns-clause-started
unfolding chain_value
returns-clause-started c = λ key m is.
    record { key_is = is.key_is; subkey_is = is.subkey_is; vector_is = refl; waiting_are = c.none_waiting-self.ensures }
