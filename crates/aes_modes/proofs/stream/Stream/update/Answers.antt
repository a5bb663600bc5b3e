use Rattle.std.proofs.Common.{rules}
use Rattle.aes_modes.proofs.stream.Stream.update.Goals as goal

pub returns-then-output-needed-clause-unchanged : goal.returns-then-output-needed-clause-unchanged
returns-then-output-needed-clause-unchanged c = search rules

pub returns-clause-answer : goal.returns-clause-answer
returns-clause-answer c = search rules

pub returns-clause-text : goal.returns-clause-text
returns-clause-text c = search rules

pub returns-clause-rest : goal.returns-clause-rest
returns-clause-rest c = search rules
