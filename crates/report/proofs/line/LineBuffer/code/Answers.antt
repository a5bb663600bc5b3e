use Rattle.std.proofs.Common.{rules}
use Rattle.report.proofs.line.LineBuffer.code.Goals as goal

pub returns-clause-appended : goal.returns-clause-appended
returns-clause-appended c = search rules
