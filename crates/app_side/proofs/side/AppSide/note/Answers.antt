use Rattle.std.proofs.Common.{rules}
use Rattle.app_side.proofs.side.AppSide.note.Goals as goal

pub returns-after-change : goal.returns-after-change
returns-after-change g c = search rules
