use Rattle.std.proofs.Common.{rules}
use Rattle.sample_apps.proofs.crypt.Crypt.set_up.Goals as goal

pub returns : goal.returns
returns c = search rules
