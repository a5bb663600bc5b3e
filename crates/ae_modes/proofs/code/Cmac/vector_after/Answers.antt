use Rattle.std.proofs.Common.{◌≡◌, ◌∙◌, ◌+◌, ◌++◌, ℕ, List, ap, sym, arith}
use Rattle.aes_core.specs.Cipher.{cipher}
use Rattle.aes_modes.specs.Modes.{xor_bytes}
use Rattle.ae_modes.specs.Cmac.{blocks_before}
use Rattle.ae_modes.specs.Code.{chain_value}
use Rattle.ae_modes.proofs.BlockLemmas.{block_of_message}
use Rattle.ae_modes.proofs.CodeLemmas.{chained-append, chained-next}
use Rattle.ae_modes.proofs.code.Cmac.vector_after.Goals as goal

pub loop-i-init : goal.loop-i-init
loop-i-init c = λ key m is.
    let none : blocks_before m ≡ blocks_before m + 0 = omega arith in
    is.vector_is ∙ sym (chained-append key m c.args.bytes.now (blocks_before m) (omega arith)) ∙ ap (chain_value key (m ++ c.args.bytes.now)) none

pub loop-i-preserved : goal.loop-i-preserved
loop-i-preserved c = λ key m is.
    chained-next key (m ++ c.args.bytes.now) c.loop-i.vector _ (blocks_before m) c.loop-i.i (c.loop-i.invariant key m is)
    (c.encrypt_block.ensures
    ∙ ap (λ (k : List ℕ). cipher k c.xor-sum.result) is.key_is
    ∙ ap (cipher key)
    (c.xor-sum.ensures
    ∙ ap (xor_bytes c.loop-i.vector) (block_of_message m c.args.bytes.now _ _ (blocks_before m) c.loop-i.i (omega arith) is.waiting_are c.block-block.ensures)))
