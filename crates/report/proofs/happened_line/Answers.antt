use Rattle.std.proofs.Common.{rules}
use Rattle.report.proofs.happened_line.Goals as goal

pub returns-in-Lost : goal.returns-in-Lost
returns-in-Lost c = search rules
