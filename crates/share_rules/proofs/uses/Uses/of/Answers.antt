use Rattle.std.proofs.Common.{rules}
use Rattle.share_rules.proofs.uses.Uses.of.Goals as goal

pub returns : goal.returns
returns c = search rules
