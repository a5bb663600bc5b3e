use Rattle.std.proofs.Common.{◌∙◌, append_assoc, refl}
use Rattle.seal.specs.Sealing.{tag_key, seal_tag}
use Rattle.seal.proofs.keys.Keys.seal_tag_of.Goals as goal

pub returns : goal.returns
unfolding seal_tag
returns c key are =
    c.code_of.ensures (tag_key key) are.tag
    ∙ rw (c.copy_from_slice-2.ensures.after, c.copy_from_slice.ensures.after, c.numbers.ensures, append_assoc, append_assoc) refl
