use Rattle.std.proofs.Common.{rules}
use Rattle.app_side.proofs.side.AppSide.drop_open.Goals as goal

pub returns-else-is_unused : goal.returns-else-is_unused
returns-else-is_unused g c = search rules
