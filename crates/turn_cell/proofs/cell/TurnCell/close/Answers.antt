-- What the rule says of the last state, in which the seat owns all parts.
use Rattle.std.proofs.Common.{◌≡◌}
use Rattle.turn_cell.proofs.StepLemmas.{closing}
use Rattle.turn_cell.proofs.cell.TurnCell.close.Goals as goal

pub unreachable-requires : goal.unreachable-requires
unreachable-requires g c =
    let q = c.requires in
    let last = closing g.T.Parted.parts_of g.T.Parted.trail_of _ _ _ _ c.args.seat.seat.me.0 _ c.close_with-closed.ensures.values.2 q.free q.all.0 q.all.1 c.args.seat.some_part c.take.ensures.value in
    c.in_default.not-Some last.0 last.1

pub returns-clause-parts : goal.returns-clause-parts
returns-clause-parts g c =
    let q = c.requires in
    let last = closing g.T.Parted.parts_of g.T.Parted.trail_of _ _ _ _ c.args.seat.seat.me.0 _ c.close_with-closed.ensures.values.2 q.free q.all.0 q.all.1 c.args.seat.some_part c.take.ensures.value in
    let same : c.in-Some.value ≡ last.0 = cc (c.in-Some.is, last.1) in
    rw same (last.2)

pub returns-clause-trail : goal.returns-clause-trail
returns-clause-trail g c =
    let q = c.requires in
    let last = closing g.T.Parted.parts_of g.T.Parted.trail_of _ _ _ _ c.args.seat.seat.me.0 _ c.close_with-closed.ensures.values.2 q.free q.all.0 q.all.1 c.args.seat.some_part c.take.ensures.value in
    let same : c.in-Some.value ≡ last.0 = cc (c.in-Some.is, last.1) in
    rw same (last.3)

pub returns-clause-original : goal.returns-clause-original
returns-clause-original g c =
    let q = c.requires in
    let last = closing g.T.Parted.parts_of g.T.Parted.trail_of _ _ _ _ c.args.seat.seat.me.0 _ c.close_with-closed.ensures.values.2 q.free q.all.0 q.all.1 c.args.seat.some_part c.take.ensures.value in
    last.4
