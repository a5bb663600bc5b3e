use Rattle.std.proofs.Common.{refl, subst}
use Rattle.std.specs.Prelude.{IfOk}
use Rattle.turn_cell.specs.Words.{cell_id_of, view as known}
use Rattle.alone.specs.Logs.{bytes_of_call, machine_by}
use Rattle.alone.specs.Machine.{Machine}
use Rattle.alone.specs.Step.{Called}
use Rattle.app_side.specs.Represents.{Represents}
use Rattle.shared_parts.proofs.HostedLemmas.{call_clients, call_tells, hosted_same, posted_there, went_hosted}
use Rattle.shared_parts.specs.HostedApps.{HostedView, origin_of}
use Rattle.shared_parts.specs.InStep.{IsPosted, IsRefusal}
use Rattle.shared_parts.specs.StorageParts.{IsMarked, first_of}
use Rattle.shared_parts.specs.declared.recorded.Recorded.{Recorded}
use Rattle.shared_parts.proofs.hosted.HostedApp.call.Goals as goal

pub invariant_of-self : goal.invariant_of-self
invariant_of-self g c =
    let h = c.self.inside in
    let then = c.call.new.self in
    let r = c.deref_mut.result.now in
    let was = hosted_same g.V.Volume.keeper g.A.Application.behaviour h.app (cell_id_of h.seat) h.start.value h.recorded.value r (known h.seat) h.misses
    c.deref_mut.ensures.value c.self.invariant in
    went_hosted g.V.Volume.keeper g.A.Application.behaviour h.app (cell_id_of h.seat) h.start.value r.side then.side r.log then.log (known h.seat) h.misses was
    c.call.ensures.step
    (call_tells c.call.result c.args.client (Called c.args.client c.args.call) r.log then.log (λ why. IsRefusal why r.log.entries (bytes_of_call c.args.call)) c.call.ensures.ok
    c.call.ensures.err refl)
    (call_clients c.call.result c.args.client (Called c.args.client c.args.call) r.log then.log (λ why. IsRefusal why r.log.entries (bytes_of_call c.args.call)) c.call.ensures.ok
    c.call.ensures.err c.requires.client)

pub returns-clause-posted : goal.returns-clause-posted
returns-clause-posted g c =
    let h = c.self.inside in
    subst (λ (x : HostedView g.row.V.Denot g.row.A.Denot). IfOk c.call.result (λ posted. IsMarked g.V.Volume.keeper x.origin.opened
    → IsPosted (machine_by g.A.Application.behaviour x.origin.machine x.log) c.args.client c.args.call posted)) c.self.view_is
    (posted_there c.call.result h.recorded.value.side
    (machine_by g.A.Application.behaviour (origin_of (cell_id_of h.seat) (known h.seat) h.start.value).machine h.recorded.value.log.entries)
    c.args.client c.args.call (IsMarked g.V.Volume.keeper (first_of (known h.seat).trail)) (λ marked. (c.self.invariant.kept marked).in_step.stands)
    (subst (λ (x : Recorded g.row.A.Denot). IfOk c.call.result (λ posted.
    (m : Machine g.row.A.Denot) → Represents x.side m → IsPosted m c.args.client c.args.call posted))
    c.deref_mut.ensures.value c.call.ensures.posted))
