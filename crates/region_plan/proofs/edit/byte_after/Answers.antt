use Rattle.std.proofs.Common.{rules}
use Rattle.region_plan.proofs.edit.byte_after.Goals as goal

pub returns-then-place-at : goal.returns-then-place-at
returns-then-place-at c = search rules
