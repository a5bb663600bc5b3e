use Rattle.std.proofs.Common.{ap, ◌∙◌}
use Rattle.std.proofs.lemmas.Nat.{and_mask}
use Rattle.ae_modes.proofs.FieldLemmas.{times_word_is}
use Rattle.ae_modes.specs.Tables.{times_power}
use Rattle.ae_modes.proofs.tables.times_word.Goals as goal

pub returns : goal.returns
returns c = times_word_is c.args.v c.reduced.result (c.reduced.ensures ∙ ap (times_power 16) (and_mask c.args.v 16))
