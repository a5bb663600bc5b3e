use Rattle.std.proofs.Common.{◌-◌, ap, inl, length, arith}
use Rattle.turn_cell.specs.Words.{cell_id, cell_id_of, view as known}
use Rattle.shared_tee.proofs.BeginLemmas.{joined_back}
use Rattle.shared_tee.proofs.MakeLemmas.{last, one_less, own_back, own_cell, owns_all}
use Rattle.shared_tee.specs.Making.{BegunCell, origin_over}
use Rattle.shared_tee.proofs.making.undo_all.Goals as goal

pub close-hosted-requires-clause-own : goal.close-hosted-requires-clause-own
close-hosted-requires-clause-own g c =
    let one : BegunCell g.row.V.Denot g.row.A.Denot = (c.in-Some.cell, c.in-Some.all) in
    (last g.V.Volume.keeper g.A.Application.behaviour (cell_id c.args.storage.now) c.args.apps c.args.opened.now.value c.loop-cell.invariant.begun.0 c.loop-cell.begun.items c.pop.new.self.items one
    c.in-Some.ensures.items c.loop-cell.invariant.begun.1).last.own

pub close-hosted-requires-clause-free : goal.close-hosted-requires-clause-free
close-hosted-requires-clause-free g c =
    let one : BegunCell g.row.V.Denot g.row.A.Denot = (c.in-Some.cell, c.in-Some.all) in
    ap (λ v. v.turn) (last g.V.Volume.keeper g.A.Application.behaviour (cell_id c.args.storage.now) c.args.apps c.args.opened.now.value c.loop-cell.invariant.begun.0 c.loop-cell.begun.items
    c.pop.new.self.items one c.in-Some.ensures.items c.loop-cell.invariant.begun.1).last.seat

pub close-hosted-requires-clause-all : goal.close-hosted-requires-clause-all
close-hosted-requires-clause-all g c =
    let K = g.V.Volume.keeper in
    let n = length c.pop.new.self.items in
    let one : BegunCell g.row.V.Denot g.row.A.Denot = (c.in-Some.cell, c.in-Some.all) in
    let l = last K g.A.Application.behaviour (cell_id c.args.storage.now) c.args.apps c.args.opened.now.value c.loop-cell.invariant.begun.0 c.loop-cell.begun.items c.pop.new.self.items one
    c.in-Some.ensures.items c.loop-cell.invariant.begun.1 in
    owns_all n (origin_over K (cell_id c.args.storage.now) c.args.apps c.args.opened.now.value n l.side) one l.last

pub join-requires-clause-own : goal.join-requires-clause-own
join-requires-clause-own g c =
    let one : BegunCell g.row.V.Denot g.row.A.Denot = (c.in-Some.cell, c.in-Some.all) in (
      own_cell g.V.Volume.keeper g.A.Application.behaviour (cell_id c.args.storage.now) c.args.apps c.args.opened.now.value c.loop-cell.invariant.begun.0 c.loop-cell.begun.items
          c.pop.new.self.items one c.in-Some.ensures.items c.loop-cell.invariant.begun.1 c.close-hosted.result c.keeps.ensures c.close-hosted.ensures.parts c.close-hosted.ensures.trail
          (known c.into_parts-log.result.1) (cell_id_of c.into_parts-log.result.1) c.into_parts-log.ensures.cell,
      c.loop-cell.invariant.own,
    )

pub join-requires-clause-adjoin : goal.join-requires-clause-adjoin
join-requires-clause-adjoin g c =
    let one : BegunCell g.row.V.Denot g.row.A.Denot = (c.in-Some.cell, c.in-Some.all) in
    let id = cell_id c.args.storage.now in
    let sides = c.loop-cell.invariant.begun.0 in
    let all = c.loop-cell.begun.items in
    let items = c.pop.new.self.items in
    let are = c.loop-cell.invariant.begun.1 in
    let own = c.into_parts-log.ensures in
    let back = own_back g.V.Volume.keeper g.A.Application.behaviour id c.args.apps c.args.opened.now.value sides all items one c.in-Some.ensures.items are c.close-hosted.result c.keeps.ensures
    c.close-hosted.ensures.parts c.close-hosted.ensures.trail (known c.into_parts-log.result.1) own.seat own.opened own.part in
    let less = one_less g.V.Volume.keeper g.A.Application.behaviour id c.args.apps c.args.opened.now.value sides all items one c.in-Some.ensures.items are in
    let first = back.first in let size = back.size in let behind = c.loop-cell.invariant.back.first in
    inl (omega (arith, first, size, behind, less))

pub loop-cell-preserved : goal.loop-cell-preserved
loop-cell-preserved g c =
    let K = g.V.Volume.keeper in
    let one : BegunCell g.row.V.Denot g.row.A.Denot = (c.in-Some.cell, c.in-Some.all) in
    let id = cell_id c.args.storage.now in
    let sides = c.loop-cell.invariant.begun.0 in
    let all = c.loop-cell.begun.items in
    let items = c.pop.new.self.items in
    let are = c.loop-cell.invariant.begun.1 in
    let own = c.into_parts-log.ensures in
    let few = c.loop-cell.invariant.few in
    let l = last K g.A.Application.behaviour id c.args.apps c.args.opened.now.value sides all items one c.in-Some.ensures.items are in
    let back = own_back K g.A.Application.behaviour id c.args.apps c.args.opened.now.value sides all items one c.in-Some.ensures.items are c.close-hosted.result c.keeps.ensures
    c.close-hosted.ensures.parts c.close-hosted.ensures.trail (known c.into_parts-log.result.1) own.seat own.opened own.part in
    let less = one_less K g.A.Application.behaviour id c.args.apps c.args.opened.now.value sides all items one c.in-Some.ensures.items are in
    record {
      few = omega (arith, few, less);
      begun = (l.front, l.are);
      own = c.join.ensures.own;
      back = joined_back K c.args.opened.now.value c.args.apps (length items) 1 (length all) (c.args.apps - length all) (c.args.apps - length items) (known c.into_parts-log.result.1)
          (known c.loop-cell.seat) (known c.join.new.seat) (omega (arith, less)) (omega (arith, less, few)) back c.loop-cell.invariant.back c.join.ensures.joined.0 c.join.ensures.joined.1
          c.join.ensures.size c.join.ensures.own_trail;
    }
