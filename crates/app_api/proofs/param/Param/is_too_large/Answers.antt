use Rattle.std.proofs.Common.{rules}
use Rattle.app_api.proofs.param.Param.is_too_large.Goals as goal

pub returns : goal.returns
returns c = search rules
