use Rattle.std.proofs.Common.{◌∙◌, refl, arith}
use Rattle.aes_modes.proofs.CounterLemmas.{part_of_sum, length-cipher}
use Rattle.aes_modes.proofs.counter.write_part.Goals as goal

pub returns : goal.returns
returns c =
    c.copy_from_slice-2.ensures.after
    ∙ rw (c.xor-text.ensures, c.key_block-key.ensures, c.copy_from_slice.ensures.after)
    (part_of_sum _ c.args.input.now _ c.args.skip _ refl (omega arith) (omega arith) (length-cipher _ _))
