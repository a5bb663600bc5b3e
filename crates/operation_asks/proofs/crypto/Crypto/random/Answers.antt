use Rattle.std.proofs.Common.{rules}
use Rattle.operation_asks.proofs.crypto.Crypto.random.Goals as goal

pub returns-in_err-bytes-clause-want : goal.returns-in_err-bytes-clause-want
returns-in_err-bytes-clause-want c = search rules

pub returns-clause-served : goal.returns-clause-served
returns-clause-served c = search rules
