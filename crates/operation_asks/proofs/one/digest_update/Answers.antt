use Rattle.std.proofs.Common.{rules}
use Rattle.operation_asks.proofs.one.digest_update.Goals as goal

pub returns : goal.returns
returns c = search rules
