use Rattle.std.proofs.Common.{rules}
use Rattle.app_api.proofs.param.Params.check.Goals as goal

pub returns-then-is_too_large-2 : goal.returns-then-is_too_large-2
returns-then-is_too_large-2 c = search rules
