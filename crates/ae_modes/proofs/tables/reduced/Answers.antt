use Rattle.ae_modes.proofs.FieldLemmas.{reduced_is}
use Rattle.ae_modes.proofs.tables.reduced.Goals as goal

pub returns : goal.returns
returns c = reduced_is c.args.bits c.ranges.bits.fits
