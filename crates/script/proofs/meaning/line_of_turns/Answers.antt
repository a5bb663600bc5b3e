use Rattle.std.proofs.Common.{arith}
use Rattle.std.proofs.lemmas.Grind.{common_steps}
use Rattle.script.specs.Lines.{turns_line}
use Rattle.script.proofs.meaning.line_of_turns.Goals as goal

pub returns-clause-value : goal.returns-clause-value
unfolding turns_line
returns-clause-value c = grind (arith, common_steps)
