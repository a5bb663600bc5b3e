use Rattle.std.proofs.Common.{rules}
use Rattle.handle_table.proofs.lists.count_of.Goals as goal

pub returns : goal.returns
returns c = search rules
