use Rattle.std.proofs.Common.{rules}
use Rattle.secret.proofs.secret.Secret.bits.Goals as goal

pub returns : goal.returns
returns c = search rules
