use Rattle.std.proofs.Common.{◌≡◌, ℕ, ◌+◌, ◌/◌, ◌++◌, length, ap, sym, ◌∙◌, arith}
use Rattle.aes_modes.specs.Modes.{number_of}
use Rattle.ae_modes.specs.Field.{product}
use Rattle.ae_modes.specs.Ghash.{ghash_blocks}
use Rattle.std.specs.Prelude.{bit_xor}
use Rattle.ae_modes.proofs.BlockLemmas.{block_of_message}
use Rattle.ae_modes.proofs.GhashLemmas.{ghash_blocks-append, ghash_blocks-next}
use Rattle.ae_modes.proofs.ghash.Ghash.sum_after.Goals as goal

pub loop-i-init : goal.loop-i-init
loop-i-init c = λ h x is.
    let none : length x / 16 ≡ length x / 16 + 0 = omega arith in
    is.sum_is ∙ sym (ghash_blocks-append h x c.args.bytes.now (length x / 16) (omega arith)) ∙ ap (ghash_blocks h (x ++ c.args.bytes.now)) none

pub loop-i-preserved : goal.loop-i-preserved
loop-i-preserved c = λ h x is.
    ghash_blocks-next h (x ++ c.args.bytes.now) (length x / 16) c.loop-i.i c.product-sum.result c.loop-i.sum (c.loop-i.invariant h x is)
    (c.product-sum.ensures h is.tables_are
    ∙ ap (λ (z : ℕ). product (bit_xor c.loop-i.sum z) h)
    (c.number_of_block.ensures
    ∙ ap number_of (block_of_message x c.args.bytes.now _ _ (length x / 16) c.loop-i.i (omega arith) is.waiting_are c.block-block.ensures)))
