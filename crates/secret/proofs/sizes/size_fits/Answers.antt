use Rattle.tee_base.specs.KeySizes.{size_fits}
use Rattle.std.proofs.Common.{rules}
use Rattle.secret.proofs.sizes.size_fits.Goals as goal

pub returns-in-128-clause-table : goal.returns-in-128-clause-table
unfolding size_fits
returns-in-128-clause-table c = search rules
