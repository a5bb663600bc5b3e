use Rattle.std.proofs.Common.{◌∙◌, ap, List, ℕ}
use Rattle.aes_core.specs.Cipher.{cipher}
use Rattle.aes_core.specs.Key.{key_bytes}
use Rattle.aes_modes.specs.Modes.{counter_block, xor_bytes}
use Rattle.aes_modes.proofs.CounterLemmas.{with_own_last}
use Rattle.aes_modes.proofs.counter.write_whole.Goals as goal

pub returns : goal.returns
returns c =
    c.write_sum.ensures
    ∙ ap (λ (b : List ℕ). xor_bytes c.args.input.now b)
    (c.encrypt_shared-words.ensures (counter_block c.args.counter) c.requires.shared
    ∙ ap (λ (b : List ℕ). cipher (key_bytes c.args.key.now) b) (with_own_last c.args.counter))
