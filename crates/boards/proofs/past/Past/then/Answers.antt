use Rattle.std.proofs.Common.{rules}
use Rattle.boards.proofs.past.Past.then.Goals as goal

pub returns : goal.returns
returns c = search rules
