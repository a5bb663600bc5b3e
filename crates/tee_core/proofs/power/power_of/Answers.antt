use Rattle.std.proofs.Common.{rules}
use Rattle.tee_core.proofs.power.power_of.Goals as goal

pub returns-else-kept : goal.returns-else-kept
returns-else-kept c = search rules
