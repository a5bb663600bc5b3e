use Rattle.std.proofs.Common.{refl, rules}
use Rattle.aes_modes.specs.Modes.{number_of}
use Rattle.aes_modes.proofs.TextLemmas.{represents_begun}
use Rattle.aes_modes.proofs.operations.start.Goals as goal

pub returns : goal.returns
unfolding number_of
returns c =
    represents_begun _ _ c.args.mode c.args.way c.args.iv refl refl refl refl refl refl c.from_be_bytes.ensures (search rules)
