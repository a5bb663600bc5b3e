use Rattle.std.proofs.Common.{refl}
use Rattle.turn_cell.specs.Words.{cell_id_of, view as known}
use Rattle.alone.specs.Step.{Cancelled}
use Rattle.shared_parts.proofs.HostedLemmas.{call_clients, call_tells, hosted_same, went_hosted}
use Rattle.shared_parts.specs.InStep.{IsRefusal}
use Rattle.shared_parts.proofs.hosted.HostedApp.cancel.Goals as goal

pub invariant_of-self : goal.invariant_of-self
invariant_of-self g c =
    let h = c.self.inside in
    let then = c.cancel.new.self in
    let r = c.deref_mut.result.now in
    let was = hosted_same g.V.Volume.keeper g.A.Application.behaviour h.app (cell_id_of h.seat) h.start.value h.recorded.value r (known h.seat) h.misses
    c.deref_mut.ensures.value c.self.invariant in
    went_hosted g.V.Volume.keeper g.A.Application.behaviour h.app (cell_id_of h.seat) h.start.value r.side then.side r.log then.log (known h.seat) h.misses was
    c.cancel.ensures.step
    (call_tells c.cancel.result c.args.client (Cancelled c.args.op) r.log then.log (λ why. IsRefusal why r.log.entries 0) c.cancel.ensures.ok c.cancel.ensures.err refl)
    (call_clients c.cancel.result c.args.client (Cancelled c.args.op) r.log then.log (λ why. IsRefusal why r.log.entries 0) c.cancel.ensures.ok c.cancel.ensures.err c.requires)
