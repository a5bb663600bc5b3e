use Rattle.std.proofs.Common.{rules}
use Rattle.app_api.proofs.host.is_name.Goals as goal

pub returns : goal.returns
returns c = search rules

pub returns-then-eq : goal.returns-then-eq
returns-then-eq c = search rules
