use Rattle.std.proofs.Common.{arith}
use Rattle.std.proofs.lemmas.Grind.{common_steps}
use Rattle.report.proofs.line.LineBuffer.shown.Goals as goal

pub returns-in_ok-number-in-Size : goal.returns-in_ok-number-in-Size
returns-in_ok-number-in-Size c = grind (arith, common_steps)
