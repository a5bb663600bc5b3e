use Rattle.std.proofs.Common.{rules, ◌∷◌, []}
use Rattle.std.proofs.lemmas.Nat.{be_bytes_4}
use Rattle.aes_core.specs.Words.{word_bytes}
use Rattle.aes_core.proofs.rounds.word.Goals as goal

pub returns : goal.returns
unfolding word_bytes
returns c =
    be_bytes_4 (c.args.a ∷ c.args.b ∷ c.args.c ∷ c.args.d ∷ []) _ (search rules) (search rules) c.from_be_bytes.ensures
