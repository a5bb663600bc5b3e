use Rattle.std.proofs.Common.{◌∙◌, ap, take, refl}
use Rattle.seal.specs.Sealing.{vector_key, seal_vector}
use Rattle.seal.proofs.keys.Keys.vector_of.Goals as goal

pub returns : goal.returns
unfolding seal_vector
returns c key are =
    c.copy_from_slice.ensures.after
    ∙ ap (take 16) (c.code_of-code.ensures (vector_key key) are.vector ∙ rw c.numbers-head.ensures refl)
