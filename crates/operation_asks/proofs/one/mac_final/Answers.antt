use Rattle.std.proofs.Common.{rules}
use Rattle.operation_asks.proofs.one.mac_final.Goals as goal

pub returns-clause-served : goal.returns-clause-served
returns-clause-served c = search rules

pub returns-clause-want : goal.returns-clause-want
returns-clause-want c = search rules
