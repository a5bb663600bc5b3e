use Rattle.std.proofs.Common.{rules}
use Rattle.object_asks.proofs.stream.landed.Goals as goal

pub returns-then-target-lt0 : goal.returns-then-target-lt0
returns-then-target-lt0 c = search rules
