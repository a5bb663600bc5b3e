use Rattle.std.proofs.Common.{rules}
use Rattle.object_asks.proofs.enumerating.give_next.Goals as goal

pub returns : goal.returns
returns g c = search rules
