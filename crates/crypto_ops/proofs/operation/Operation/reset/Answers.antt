use Rattle.std.proofs.Common.{rules}
use Rattle.crypto_ops.proofs.operation.Operation.reset.Goals as goal

pub returns-then-is_none-clause-answer : goal.returns-then-is_none-clause-answer
returns-then-is_none-clause-answer c = search rules
