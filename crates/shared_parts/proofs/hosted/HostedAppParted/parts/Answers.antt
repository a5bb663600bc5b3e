use Rattle.std.proofs.Common.{◌≡◌, length, subst}
use Rattle.shared_parts.proofs.HostedLemmas.{eight_parts}
use Rattle.shared_parts.specs.HostedApps.{HostedView, parts_for}
use Rattle.shared_parts.proofs.hosted.HostedAppParted.parts.Goals as goal

pub returns : goal.returns
returns g c =
    subst (λ (x : HostedView g.row.V.Denot g.row.A.Denot). 8 ≡ length (parts_for x.log 0 x.misses)) c.self.view_is
    (eight_parts c.self.inside.recorded.value.log.entries c.self.inside.misses c.self.invariant.misses_are.eight)
