use Rattle.ae_modes.proofs.FieldLemmas.{entry_is}
use Rattle.ae_modes.proofs.tables.entry.Goals as goal

pub returns : goal.returns
returns c =
    entry_is c.args.i c.args.v c.times_x-second.result c.times_x-third.result c.times_x-fourth.result _ _ _ _
    c.times_x-second.ensures c.times_x-third.ensures c.times_x-fourth.ensures c.chosen.ensures c.chosen-2.ensures c.chosen-3.ensures c.chosen-4.ensures
