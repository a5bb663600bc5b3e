use Rattle.std.proofs.Common.{◌≡◌, ◌∙◌, ap, arith, drop, refl, subst, sym}
use Rattle.turn_cell.specs.Words.{cell_id, view as known}
use Rattle.shared_tee.proofs.CellEnds.{HasJoined, adjoins_next, ends_for, free_next, joined_first, joined_more, next_there}
use Rattle.shared_tee.proofs.JoinLemmas.{left_further}
use Rattle.shared_tee.proofs.ending.close_cell.Goals as goal

pub next_seat-seat-requires : goal.next_seat-seat-requires
next_seat-seat-requires g c =
    let n = next_there g.V.Volume.keeper g.A.Application.behaviour (cell_id c.args.cell) c.args.passes.now.items c.requires.next 0 c.args.passes.now.items refl (omega arith) in
    record { some = (n.0, n.1) }

pub loop-client-init : goal.loop-client-init
loop-client-init g c =
    let passes = c.args.passes.now.items in
    let n = next_there g.V.Volume.keeper g.A.Application.behaviour (cell_id c.args.cell) passes c.requires.next 0 passes refl (omega arith) in
    let s = c.next_seat-seat.ensures.seat n.0 n.1 in
    record {
      own = s.0 ∙ n.3;
      joined = joined_first g.V.Volume.keeper g.A.Application.behaviour (cell_id c.args.cell) passes c.requires.next n.0 n.2 s.2 (known c.next_seat-seat.result) s.1;
      rest = c.next_seat-seat.ensures.rest;
    }

pub next_seat-other-requires : goal.next_seat-other-requires
next_seat-other-requires g c =
    let was = c.loop-client in
    let n = next_there g.V.Volume.keeper g.A.Application.behaviour (cell_id c.args.cell) c.args.passes.now.items c.requires.next was.client was.passes.items was.invariant.rest
    c.loop-client-test.true in
    record { some = (n.0, n.1) }

pub join-requires-clause-own : goal.join-requires-clause-own
join-requires-clause-own g c =
    let was = c.loop-client in
    let n = next_there g.V.Volume.keeper g.A.Application.behaviour (cell_id c.args.cell) c.args.passes.now.items c.requires.next was.client was.passes.items was.invariant.rest
    c.loop-client-test.true in
    (was.invariant.own, (c.next_seat-other.ensures.seat n.0 n.1).0 ∙ n.3)

pub join-requires-clause-free : goal.join-requires-clause-free
join-requires-clause-free g c =
    let was = c.loop-client in
    let passes = c.args.passes.now.items in
    let n = next_there g.V.Volume.keeper g.A.Application.behaviour (cell_id c.args.cell) passes c.requires.next was.client was.passes.items was.invariant.rest c.loop-client-test.true in
    let s = c.next_seat-other.ensures.seat n.0 n.1 in (
      was.invariant.joined.free,
      free_next g.V.Volume.keeper g.A.Application.behaviour (cell_id c.args.cell) passes c.requires.next was.client (known was.seat) was.invariant.joined c.loop-client-test.true n.0 n.2 s.2
          (known c.next_seat-other.result) s.1,
    )

pub join-requires-clause-adjoin : goal.join-requires-clause-adjoin
join-requires-clause-adjoin g c =
    let was = c.loop-client in
    let passes = c.args.passes.now.items in
    let n = next_there g.V.Volume.keeper g.A.Application.behaviour (cell_id c.args.cell) passes c.requires.next was.client was.passes.items was.invariant.rest c.loop-client-test.true in
    let s = c.next_seat-other.ensures.seat n.0 n.1 in
    adjoins_next g.V.Volume.keeper g.A.Application.behaviour (cell_id c.args.cell) passes c.requires.next was.client (known was.seat) was.invariant.joined c.loop-client-test.true n.0 n.2 s.2
    (known c.next_seat-other.result) s.1

pub loop-client-preserved : goal.loop-client-preserved
loop-client-preserved g c =
    let was = c.loop-client in
    let passes = c.args.passes.now.items in
    let n = next_there g.V.Volume.keeper g.A.Application.behaviour (cell_id c.args.cell) passes c.requires.next was.client was.passes.items was.invariant.rest c.loop-client-test.true in
    let s = c.next_seat-other.ensures.seat n.0 n.1 in
    let made = c.join.ensures in
    record {
      own = made.own;
      joined = joined_more g.V.Volume.keeper g.A.Application.behaviour (cell_id c.args.cell) passes c.requires.next was.client (known was.seat) was.invariant.joined c.loop-client-test.true
          n.0 n.2 s.2 (known c.next_seat-other.result) s.1 (known c.join.new.seat) made.joined.0 made.joined.1 made.first made.size made.own_trail made.other_trail;
      rest = left_further 1 was.client was.passes.items passes c.next_seat-other.new.passes.items was.invariant.rest c.next_seat-other.ensures.rest;
    }

pub close-hosted-requires-clause-free : goal.close-hosted-requires-clause-free
close-hosted-requires-clause-free g c = c.loop-client.invariant.joined.free

pub close-hosted-requires-clause-all : goal.close-hosted-requires-clause-all
close-hosted-requires-clause-all g c =
    let joined = c.loop-client.invariant.joined in
    let eight : c.loop-client.client ≡ 8 = omega arith in
    (joined.first, joined.size ∙ eight ∙ sym c.requires.eight)

pub returns-clause-each : goal.returns-clause-each
returns-clause-each g c = λ i p lt there.
    let passes = c.args.passes.now.items in
    let v = known c.loop-client.seat in
    let eight : c.loop-client.client ≡ 8 = omega arith in
    let all = subst (λ n. HasJoined g.V.Volume.keeper g.A.Application.behaviour passes n v) eight c.loop-client.invariant.joined in
    ends_for g.V.Volume.keeper g.A.Application.behaviour (cell_id c.args.cell) passes c.requires.next v all c.close-hosted.result c.keeps.ensures
    c.close-hosted.ensures.parts c.close-hosted.ensures.trail i p lt there

pub returns-clause-rest : goal.returns-clause-rest
returns-clause-rest g c =
    let eight : c.loop-client.client ≡ 8 = omega arith in
    c.loop-client.invariant.rest ∙ ap (λ n. drop n c.args.passes.now.items) eight
