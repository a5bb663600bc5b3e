use Rattle.std.proofs.Common.{subst, sym}
use Rattle.turn_cell.specs.Words.{view as known}
use Rattle.shared_parts.proofs.HostedLemmas.{first_prefix, lost_prefix, turned_then}
use Rattle.shared_parts.proofs.PartLemmas.{found_here, gives_part}
use Rattle.shared_parts.specs.InStep.{HasPart, StoragePart}
use Rattle.shared_parts.specs.StorageParts.{IsMarked, StorageEntry, no_part, part_at}
use Rattle.shared_parts.proofs.hosting.turn_in_storage.Goals as goal

pub turn-kind-requires-clause-loss : goal.turn-kind-requires-clause-loss
turn-kind-requires-clause-loss g c = λ lost. lost_prefix (known c.args.seat.now).trail c.in-Ok.store.trail c.in-Ok.ensures.continues.1 (c.requires.lost lost)

pub turn-kind-requires-clause-known : goal.turn-kind-requires-clause-known
turn-kind-requires-clause-known g c = λ marked.
    let v = known c.args.seat.now in
    subst (λ (p : StoragePart). HasPart c.args.recorded.now.side p)
    (sym (found_here c.args.app v c.requires.seat.place c.requires.seat.one no_part c.in-Ok.store.parts c.in-Ok.ensures.continues.0).1)
    (c.requires.part (subst (λ (e : StorageEntry g.row.V.Denot). IsMarked g.V.Volume.keeper e) (first_prefix v.trail c.in-Ok.store.trail c.requires.seat.began c.in-Ok.ensures.continues.1) marked))

pub give-requires-clause-parts : goal.give-requires-clause-parts
give-requires-clause-parts g c =
    let v = known c.args.seat.now in
    let u = known c.try_take.new.seat in
    let now = c.turn-kind.new.self.parts in
    gives_part c.args.app v c.requires.seat.place c.requires.seat.one u u.turn c.in-Ok.store.parts now (part_at now c.args.app) c.in-Ok.ensures.others c.in-Ok.ensures.taken.1
    c.turn-kind.ensures.others

pub returns-in-Ok-clause-ok : goal.returns-in-Ok-clause-ok
returns-in-Ok-clause-ok g c =
    let v = known c.args.seat.now in
    let u = known c.try_take.new.seat in
    let store = c.in-Ok.store in
    let then = c.turn-kind.new.self in
    let turn = c.turn-kind.ensures in
    turned_then g.V.Volume.keeper g.A.Application.behaviour c.args.app c.args.client c.args.instance (g.V.Volume.keeper.condition then.volume).faults c.turn-kind.result
    c.args.recorded.now.side c.turn-kind.new.recorded.side c.args.recorded.now.log c.turn-kind.new.recorded.log v c.requires.seat store.parts then.parts store.trail then.trail
    c.in-Ok.ensures.continues.0 c.in-Ok.ensures.continues.1 turn.others turn.trail turn.made turn.lost turn.kept u (known c.give.new.seat) u.turn c.in-Ok.ensures.others c.give.ensures.given
