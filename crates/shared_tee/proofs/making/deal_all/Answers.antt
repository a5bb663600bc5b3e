use Rattle.std.proofs.Common.{◌≡◌, ◌++◌, List, [], ◌∷◌, append_assoc, length, length-append, sym, ◌∙◌, ap, arith}
use Rattle.std.proofs.lemmas.List.{length-map, length_push, map-append}
use Rattle.turn_cell.specs.Words.{cell_id}
use Rattle.turn_cell.specs.declared.cell.TurnCell.{TurnCell}
use Rattle.shared_parts.specs.HostedApps.{ClientPart, HostedEvent, HostedView}
use Rattle.shared_tee.proofs.MakeLemmas.{deals_here}
use Rattle.shared_tee.specs.Dealing.{fresh_passes}
use Rattle.shared_tee.specs.Making.{BegunCell}
use Rattle.shared_tee.specs.Passes.{PassView}
use Rattle.shared_tee.proofs.making.deal_all.Goals as goal

pub deal-requires-clause-own : goal.deal-requires-clause-own
deal-requires-clause-own g c =
    let was = c.loop-cell.invariant.dealt in
    let one : BegunCell g.row.V.Denot g.row.A.Denot = (c.in-Some.cell, c.in-Some.seat) in
    (deals_here (length was.0) c.requires.begun.0 c.args.begun.items was.0 c.loop-cell.rest.items c.pop_front.new.self.items one was.1 c.in-Some.ensures.items (omega arith)
    c.requires.begun.1).begun.own

pub deal-requires-clause-fresh : goal.deal-requires-clause-fresh
deal-requires-clause-fresh g c =
    let was = c.loop-cell.invariant.dealt in
    let one : BegunCell g.row.V.Denot g.row.A.Denot = (c.in-Some.cell, c.in-Some.seat) in
    let next = deals_here (length was.0) c.requires.begun.0 c.args.begun.items was.0 c.loop-cell.rest.items c.pop_front.new.self.items one was.1 c.in-Some.ensures.items (omega arith)
    c.requires.begun.1 in
    (next.origin, next.begun.seat)

pub deal-requires-clause-room : goal.deal-requires-clause-room
deal-requires-clause-room g c =
    let was = c.loop-cell.invariant.dealt in
    let one : BegunCell g.row.V.Denot g.row.A.Denot = (c.in-Some.cell, c.in-Some.seat) in
    let all = ap (λ (bs : List (BegunCell g.row.V.Denot g.row.A.Denot)). length bs) was.1 in
    let sum = length-append was.0 c.loop-cell.rest.items in
    let more = ap (λ (bs : List (BegunCell g.row.V.Denot g.row.A.Denot)). length bs) c.in-Some.ensures.items in
    let cells = ap (λ (cs : List (TurnCell (HostedView g.row.V.Denot g.row.A.Denot) ClientPart (HostedEvent g.row.V.Denot g.row.A.Denot))). length cs) was.2 ∙ length-map was.0 (λ b. b.0) in
    let many = c.loop-cell.invariant.many in let room = c.loop-cell.invariant.passes_room in let count = c.loop-cell.passes.ok.0 in
    omega (arith, all, sum, more, cells, many, room, count)

pub push_reserved-requires : goal.push_reserved-requires
push_reserved-requires g c =
    let was = c.loop-cell.invariant.dealt in
    let all = ap (λ (bs : List (BegunCell g.row.V.Denot g.row.A.Denot)). length bs) was.1 in
    let sum = length-append was.0 c.loop-cell.rest.items in
    let more = ap (λ (bs : List (BegunCell g.row.V.Denot g.row.A.Denot)). length bs) c.in-Some.ensures.items in
    let cells = ap (λ (cs : List (TurnCell (HostedView g.row.V.Denot g.row.A.Denot) ClientPart (HostedEvent g.row.V.Denot g.row.A.Denot))). length cs) was.2 ∙ length-map was.0 (λ b. b.0) in
    let room = c.loop-cell.invariant.cells_room in let count = c.loop-cell.cells.ok.0 in
    omega (arith, all, sum, more, cells, room, count)

pub loop-cell-preserved : goal.loop-cell-preserved
loop-cell-preserved g c =
    let was = c.loop-cell.invariant.dealt in
    let front = was.0 in
    let one : BegunCell g.row.V.Denot g.row.A.Denot = (c.in-Some.cell, c.in-Some.seat) in
    let rest = c.pop_front.new.self.items in
    let items = c.in-Some.ensures.items in
    let cells = ap (λ (cs : List (TurnCell (HostedView g.row.V.Denot g.row.A.Denot) ClientPart (HostedEvent g.row.V.Denot g.row.A.Denot))). length cs) was.2 ∙ length-map front (λ b. b.0) in
    let at : c.len.result ≡ length front = let e = c.len.ensures in let n = c.loop-cell.cells.ok.0 in omega (arith, e, n, cells) in
    let next = deals_here c.len.result c.requires.begun.0 c.args.begun.items front c.loop-cell.rest.items rest one was.1 items at c.requires.begun.1 in
    let dealt = ap (λ (ps : List (PassView g.row.V.Denot g.row.A.Denot)). length ps) (c.deal.ensures.passes next.origin next.begun.seat)
    ∙ length-append c.loop-cell.passes.items (fresh_passes (cell_id c.in-Some.cell) next.origin c.len.result 0 8) in
    let pushed = ap (λ (cs : List (TurnCell (HostedView g.row.V.Denot g.row.A.Denot) ClientPart (HostedEvent g.row.V.Denot g.row.A.Denot))). length cs) c.push_reserved.ensures.items
    ∙ length_push c.loop-cell.cells.items c.in-Some.cell in
    let many = c.loop-cell.invariant.many in
    record {
      dealt = (
        front ++ one ∷ [],
        append_assoc front (one ∷ []) rest ∙ ap (λ (bs : List (BegunCell g.row.V.Denot g.row.A.Denot)). front ++ bs) (sym items) ∙ was.1,
        c.push_reserved.ensures.items
            ∙ ap (λ (cs : List (TurnCell (HostedView g.row.V.Denot g.row.A.Denot) ClientPart (HostedEvent g.row.V.Denot g.row.A.Denot))). cs ++ c.in-Some.cell ∷ []) was.2
            ∙ sym (map-append (λ (b : BegunCell g.row.V.Denot g.row.A.Denot). b.0) front (one ∷ [])),
        λ origins are.
            let here = deals_here c.len.result origins c.args.begun.items front c.loop-cell.rest.items rest one was.1 items at are in
            c.deal.ensures.passes here.origin here.begun.seat
            ∙ ap (λ (ps : List (PassView g.row.V.Denot g.row.A.Denot)). ps ++ fresh_passes (cell_id c.in-Some.cell) here.origin c.len.result 0 8) (was.3 origins are)
            ∙ sym here.passes,
      );
      many = omega (arith, dealt, pushed, many);
      cells_room = let room = c.loop-cell.invariant.cells_room in let same = c.push_reserved.ensures.capacity in omega (arith, room, same);
      passes_room = let room = c.loop-cell.invariant.passes_room in let same = c.deal.ensures.capacity in omega (arith, room, same);
    }
