use Rattle.std.proofs.Common.{refl}
use Rattle.ae_modes.specs.Ghash.{ghash_blocks}
use Rattle.ae_modes.proofs.ghash.start.Goals as goal

pub returns : goal.returns
unfolding ghash_blocks
returns c = record { tables_are = c.tables_of.ensures; sum_is = refl; waiting_are = c.none_waiting.ensures }
