use Rattle.std.proofs.Common.{rules}
use Rattle.secret.proofs.secret.Secret.copy.Goals as goal

pub returns : goal.returns
returns c = search rules
