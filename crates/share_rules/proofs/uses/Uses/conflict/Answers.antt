use Rattle.std.proofs.Common.{rules}
use Rattle.share_rules.proofs.uses.Uses.conflict.Goals as goal

pub returns-then-self-4 : goal.returns-then-self-4
returns-then-self-4 c = search rules

pub returns-else-self-4 : goal.returns-else-self-4
returns-else-self-4 c = search rules
