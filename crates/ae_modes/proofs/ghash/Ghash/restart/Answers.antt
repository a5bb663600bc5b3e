use Rattle.std.proofs.Common.{refl}
use Rattle.ae_modes.specs.Ghash.{ghash_blocks}
use Rattle.ae_modes.proofs.ghash.Ghash.restart.Goals as goal

pub returns : goal.returns
unfolding ghash_blocks
returns c = λ h x is. record { tables_are = is.tables_are; sum_is = refl; waiting_are = c.none_waiting-self.ensures }
