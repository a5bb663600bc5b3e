use Rattle.std.proofs.Common.{subst}
use Rattle.turn_cell.specs.Words.{cell_id_of, view as known}
use Rattle.shared_parts.proofs.HostedLemmas.{hosted_kept}
use Rattle.shared_parts.specs.HostedApps.{HostedView, KeepsHosted}
use Rattle.shared_parts.proofs.hosted.HostedApp.keeps.Goals as goal

pub returns : goal.returns
returns g c =
    let h = c.self.inside in
    subst (λ (x : HostedView g.row.V.Denot g.row.A.Denot). KeepsHosted g.V.Volume.keeper g.A.Application.behaviour x) c.self.view_is
    (hosted_kept g.V.Volume.keeper g.A.Application.behaviour h.app (cell_id_of h.seat) h.start.value h.recorded.value.side h.recorded.value.log (known h.seat) h.misses c.self.invariant)
