use Rattle.std.proofs.Common.{rules}
use Rattle.report.proofs.power_line.Goals as goal

pub returns-in-Kept : goal.returns-in-Kept
returns-in-Kept c = search rules
