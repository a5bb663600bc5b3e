use Rattle.std.proofs.Common.{rules}
use Rattle.handle_table.proofs.table.HandleTable.is_full.Goals as goal

pub returns : goal.returns
returns c = search rules
