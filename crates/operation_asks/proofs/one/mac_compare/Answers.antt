use Rattle.std.proofs.Common.{rules}
use Rattle.operation_asks.proofs.one.mac_compare.Goals as goal

pub returns : goal.returns
returns c = search rules
