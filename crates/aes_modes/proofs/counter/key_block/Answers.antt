use Rattle.std.proofs.Common.{◌∙◌, ap, arith, List, ℕ}
use Rattle.aes_core.specs.Cipher.{cipher}
use Rattle.aes_core.specs.Key.{key_bytes}
use Rattle.aes_modes.proofs.CounterLemmas.{counter_block_below}
use Rattle.aes_modes.proofs.counter.key_block.Goals as goal

pub returns : goal.returns
returns c =
    c.encrypt_block.ensures
    ∙ ap (λ (b : List ℕ). cipher (key_bytes c.args.key.now) b) (c.block_of_number-block.ensures ∙ counter_block_below c.args.counter (omega arith))
