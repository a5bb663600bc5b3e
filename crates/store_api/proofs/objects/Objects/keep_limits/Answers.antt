use Rattle.std.proofs.Common.{subst}
use Rattle.store_api.specs.Limits.{IsWithinLimits}
use Rattle.store_api.proofs.objects.Objects.keep_limits.Goals as goal

pub returns : goal.returns
returns c = subst IsWithinLimits c.self.view_is c.self.invariant.limits
