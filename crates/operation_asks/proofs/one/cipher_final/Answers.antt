use Rattle.std.proofs.Common.{rules}
use Rattle.operation_asks.proofs.one.cipher_final.Goals as goal

pub returns-clause-served : goal.returns-clause-served
returns-clause-served c = search rules
