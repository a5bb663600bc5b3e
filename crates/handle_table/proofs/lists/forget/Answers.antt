use Rattle.std.proofs.Common.{rules}
use Rattle.handle_table.proofs.lists.forget.Goals as goal

pub returns-in-Persistent : goal.returns-in-Persistent
returns-in-Persistent c = search rules
