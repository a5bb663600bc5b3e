use Rattle.std.proofs.Common.{rules}
use Rattle.sample_apps.proofs.crypt.Crypt.refuse_tag.Goals as goal

pub returns-in-Some : goal.returns-in-Some
returns-in-Some c = search rules
