use Rattle.std.proofs.Common.{◌≡◌, ◌∙◌, ap, refl, subst, sym}
use Rattle.turn_cell.specs.Words.{TableId, cell_id_of, view as known}
use Rattle.alone.specs.Logs.{Adds}
use Rattle.app_side.specs.Represents.{event_of}
use Rattle.app_side.specs.declared.side.AppSide.{AppSide}
use Rattle.shared_parts.proofs.HostedLemmas.{hosted_same, missed_hosted, same_clients, same_tells, storeless_clients, storeless_tells, turned_hosted, went_hosted}
use Rattle.shared_parts.proofs.StepLemmas.{goes_further, grown_goes, has_part}
use Rattle.shared_parts.specs.HostedApps.{HostedView, IsHosted, TurnsInStorage, origin_of}
use Rattle.shared_parts.specs.InStep.{GoesInStep, HasPart}
use Rattle.shared_parts.specs.StorageParts.{part_at}
use Rattle.shared_parts.specs.declared.recorded.Recorded.{Recorded}
use Rattle.shared_parts.proofs.hosted.HostedApp.turn.Goals as goal

pub invariant_of-self : goal.invariant_of-self
invariant_of-self g c =
    let h = c.self.inside in
    let r = c.deref_mut.result.now in
    let was = hosted_same g.V.Volume.keeper g.A.Application.behaviour h.app (cell_id_of h.seat) h.start.value h.recorded.value r (known h.seat) h.misses
    c.deref_mut.ensures.value c.self.invariant in
    let middle = c.begin_turn.new.self in
    let then = c.turn_without_store.new.self in
    let begun = c.in-Ok.ensures in
    let turned = c.turn_without_store.ensures in
    let here = c.deref_mut-then-not-needs_store.ensures.value in
    let step = subst (λ (x : Recorded g.row.A.Denot). GoesInStep g.A.Application.behaviour x.side x.log then.side then.log) here turned.step in
    let adds =
    subst (λ (x : Recorded g.row.A.Denot). Adds c.args.client (event_of c.turn_without_store.result c.args.instance) x.log.entries then.log.entries) here turned.adds in
    went_hosted g.V.Volume.keeper g.A.Application.behaviour h.app (cell_id_of h.seat) h.start.value r.side then.side r.log then.log (known h.seat) h.misses was
    (goes_further g.A.Application.behaviour r.side middle.side then.side r.log middle.log then.log
    (grown_goes g.A.Application.behaviour r.side middle.side r.log middle.log begun.side begun.log) step)
    (λ told. same_tells r.log.entries middle.log.entries begun.log.entries
    (storeless_tells c.turn_without_store.result c.args.client c.args.instance middle.log.entries then.log.entries turned.kind adds told))
    (storeless_clients c.args.client (event_of c.turn_without_store.result c.args.instance) r.log.entries middle.log.entries then.log.entries begun.log.entries adds c.requires.client)

pub turn_in_storage-requires-clause-part : goal.turn_in_storage-requires-clause-part
turn_in_storage-requires-clause-part g c = λ marked.
    let h = c.self.inside in
    let r = c.deref_mut.result.now in
    let was = hosted_same g.V.Volume.keeper g.A.Application.behaviour h.app (cell_id_of h.seat) h.start.value h.recorded.value r (known h.seat) h.misses
    c.deref_mut.ensures.value c.self.invariant in
    let own = part_at (known h.seat).own 0 in
    subst (λ (x : Recorded g.row.A.Denot). HasPart x.side own) (sym c.deref_mut-recorded.ensures.value)
    (subst (λ (s : AppSide g.row.A.Denot). HasPart s own) (sym c.in-Ok.ensures.side)
    (has_part g.A.Application.behaviour (origin_of (cell_id_of h.seat) (known h.seat) h.start.value).machine r.side r.log own (was.kept marked)))

pub invariant_of-self-in-Ok-turn_in_storage : goal.invariant_of-self-in-Ok-turn_in_storage
invariant_of-self-in-Ok-turn_in_storage g c =
    let h = c.self.inside in
    let r = c.deref_mut.result.now in
    let was = hosted_same g.V.Volume.keeper g.A.Application.behaviour h.app (cell_id_of h.seat) h.start.value h.recorded.value r (known h.seat) h.misses
    c.deref_mut.ensures.value c.self.invariant in
    let middle = c.begin_turn.new.self in
    let then = c.turn_in_storage.new.recorded in
    let w = known c.turn_in_storage.new.seat in
    let turn = c.in-Ok-turn_in_storage.ensures in
    let event = event_of c.in-Ok-turn_in_storage.kind c.args.instance in
    let here : cell_id_of c.turn_in_storage.new.seat ≡ cell_id_of h.seat =
    turn.own ∙ c.requires.own ∙ sym (ap (λ (x : HostedView g.row.V.Denot g.row.A.Denot). x.origin.storage) c.self.view_is) in
    subst (λ (id : TableId). IsHosted g.V.Volume.keeper g.A.Application.behaviour h.app then.side then.log id w h.start.value h.misses) (sym here)
    (turned_hosted g.V.Volume.keeper g.A.Application.behaviour h.app (cell_id_of h.seat) h.start.value c.args.client event r.side then.side r.log middle.log then.log
    (known h.seat) w h.misses was
    (grown_goes g.A.Application.behaviour r.side r.side r.log middle.log refl c.in-Ok.ensures.log) c.in-Ok.ensures.log.entries
    (subst (λ (s : AppSide g.row.A.Denot). TurnsInStorage g.V.Volume.keeper g.A.Application.behaviour h.app c.args.client event s then.side middle.log then.log (known h.seat) w)
    c.in-Ok.ensures.side
    (subst (λ (x : Recorded g.row.A.Denot). TurnsInStorage g.V.Volume.keeper g.A.Application.behaviour h.app c.args.client event x.side then.side x.log then.log (known h.seat) w)
    c.deref_mut-recorded.ensures.value turn.ok)) c.requires.client)

pub invariant_of-self-in-Err-turn_in_storage : goal.invariant_of-self-in-Err-turn_in_storage
invariant_of-self-in-Err-turn_in_storage g c =
    let h = c.self.inside in
    let r = c.deref_mut.result.now in
    let was = hosted_same g.V.Volume.keeper g.A.Application.behaviour h.app (cell_id_of h.seat) h.start.value h.recorded.value r (known h.seat) h.misses
    c.deref_mut.ensures.value c.self.invariant in
    let middle = c.begin_turn.new.self in
    let w = known c.turn_in_storage.new.seat in
    let missed = c.in-Err-turn_in_storage.ensures in
    let misses = c.note_miss.new.misses in
    let here : cell_id_of c.turn_in_storage.new.seat ≡ cell_id_of h.seat =
    missed.own ∙ c.requires.own ∙ sym (ap (λ (x : HostedView g.row.V.Denot g.row.A.Denot). x.origin.storage) c.self.view_is) in
    let begun =
    went_hosted g.V.Volume.keeper g.A.Application.behaviour h.app (cell_id_of h.seat) h.start.value r.side middle.side r.log middle.log (known h.seat) h.misses was
    (grown_goes g.A.Application.behaviour r.side middle.side r.log middle.log c.in-Ok.ensures.side c.in-Ok.ensures.log)
    (λ told. same_tells r.log.entries middle.log.entries c.in-Ok.ensures.log.entries told)
    (λ were. same_clients r.log.entries middle.log.entries c.in-Ok.ensures.log.entries were) in
    subst (λ (id : TableId). IsHosted g.V.Volume.keeper g.A.Application.behaviour h.app c.turn_in_storage.new.recorded.side c.turn_in_storage.new.recorded.log id w h.start.value misses) (sym here)
    (hosted_same g.V.Volume.keeper g.A.Application.behaviour h.app (cell_id_of h.seat) h.start.value middle c.turn_in_storage.new.recorded w misses
    (missed.same ∙ c.deref_mut-recorded.ensures.value)
    (missed_hosted g.V.Volume.keeper g.A.Application.behaviour h.app (cell_id_of h.seat) h.start.value middle.side middle.log (known h.seat) w h.misses misses c.args.client
    c.in-Err-turn_in_storage.busy.word begun c.requires.client missed.busy.2 c.note_miss.ensures))

pub invariant_of-self-in-Err : goal.invariant_of-self-in-Err
invariant_of-self-in-Err g c =
    let h = c.self.inside in
    let r = c.deref_mut.result.now in
    let was = hosted_same g.V.Volume.keeper g.A.Application.behaviour h.app (cell_id_of h.seat) h.start.value h.recorded.value r (known h.seat) h.misses
    c.deref_mut.ensures.value c.self.invariant in
    let middle = c.begin_turn.new.self in
    went_hosted g.V.Volume.keeper g.A.Application.behaviour h.app (cell_id_of h.seat) h.start.value r.side middle.side r.log middle.log (known h.seat) h.misses was
    (grown_goes g.A.Application.behaviour r.side middle.side r.log middle.log c.in-Err.ensures.side c.in-Err.ensures.log)
    (λ told. same_tells r.log.entries middle.log.entries c.in-Err.ensures.log.entries told)
    (λ were. same_clients r.log.entries middle.log.entries c.in-Err.ensures.log.entries were)
