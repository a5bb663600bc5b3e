use Rattle.std.proofs.Common.{rules}
use Rattle.app_api.proofs.param.Param.kind.Goals as goal

pub returns-in-MemOut : goal.returns-in-MemOut
returns-in-MemOut c = search rules
