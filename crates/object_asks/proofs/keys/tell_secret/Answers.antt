use Rattle.std.proofs.Common.{rules}
use Rattle.object_asks.proofs.keys.tell_secret.Goals as goal

pub returns-then-key-eq0 : goal.returns-then-key-eq0
returns-then-key-eq0 c = search rules
