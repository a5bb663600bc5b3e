use Rattle.std.proofs.Common.{refl, ◌∙◌}
use Rattle.aes_core.specs.KeyExpansion.{sub_word}
use Rattle.aes_core.specs.Words.{word_bytes}
use Rattle.aes_core.proofs.schedule.sub_word.Goals as goal

pub returns : goal.returns
unfolding sub_word word_bytes
returns c =
    c.from_be_bytes.ensures
    ∙ rw (c.substitute.ensures, c.substitute-2.ensures, c.substitute-3.ensures, c.substitute-4.ensures, c.to_be_bytes-b.ensures) refl
