use Rattle.std.proofs.Common.{rules}
use Rattle.secret.proofs.sizes.exceeds.Goals as goal

pub returns : goal.returns
returns c = search rules
