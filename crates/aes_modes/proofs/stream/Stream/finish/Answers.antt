use Rattle.std.proofs.Common.{rules}
use Rattle.aes_modes.proofs.stream.Stream.finish.Goals as goal

pub returns-clause-restarted : goal.returns-clause-restarted
returns-clause-restarted c = search rules

pub returns-then-self-input-ne0-clause-answer : goal.returns-then-self-input-ne0-clause-answer
returns-then-self-input-ne0-clause-answer c = search rules

pub returns-in_err-written-clause-answer : goal.returns-in_err-written-clause-answer
returns-in_err-written-clause-answer c = search rules
