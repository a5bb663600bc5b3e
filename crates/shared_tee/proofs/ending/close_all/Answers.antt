use Rattle.std.proofs.Common.{◌≡◌, ◌∷◌, [], arith, rules, sym, ◌∙◌}
use Rattle.turn_cell.specs.Words.{cell_id, view as known}
use Rattle.shared_tee.proofs.AllEnd.{all_closed, cell_there, closed_first, closed_more, closes_next, first_storage, first_there, logs_few, next_adjoins, next_left, next_of, next_storage}
use Rattle.shared_tee.proofs.ending.close_all.Goals as goal

-- ---- the first cell

pub close_cell-requires-clause-next : goal.close_cell-requires-clause-next
close_cell-requires-clause-next g c =
    let cells = c.args.cells.items in
    let front : cells ≡ c.in-Some.first ∷ c.pop_front.new.self.items = sym c.from-cells.ensures.0 ∙ c.in-Some.ensures.items in
    next_of g.V.Volume.keeper g.A.Application.behaviour (λ x. cell_id x) cells (cell_id c.args.storage.now) c.args.passes.items c.requires.passes 0 c.in-Some.first c.from-passes.result.items
    (first_there g.V.Volume.keeper g.A.Application.behaviour (λ x. cell_id x) cells (cell_id c.args.storage.now) c.args.passes.items c.requires.passes c.in-Some.first c.pop_front.new.self.items front)
    c.from-passes.ensures.0

pub loop-cell-init : goal.loop-cell-init
loop-cell-init g c =
    let cells = c.args.cells.items in
    let all = c.args.passes.items in
    let h = c.close_cell.result in
    let given = c.into_parts-log.ensures in
    let log = c.into_parts-log.result.0 in
    let u = known c.into_parts-log.result.1 in
    let left = c.pop_front.new.self.items in
    let front : cells ≡ c.in-Some.first ∷ left = sym c.from-cells.ensures.0 ∙ c.in-Some.ensures.items in
    let closes =
    closes_next g.V.Volume.keeper g.A.Application.behaviour all c.from-passes.result.items 0 c.from-passes.ensures.0 h log u c.close_cell.ensures.each given.log given.seat given.opened
    given.told given.part in
    record {
      own = given.cell
          ∙ first_storage g.V.Volume.keeper g.A.Application.behaviour (λ x. cell_id x) cells (cell_id c.args.storage.now) all c.requires.passes c.in-Some.first left front h log u closes;
      closed = closed_first g.V.Volume.keeper g.A.Application.behaviour (λ x. cell_id x) cells (cell_id c.args.storage.now) all c.requires.passes c.in-Some.first left front h log u closes
          c.from-passes.result.items c.close_cell.new.passes.items c.from-passes.ensures.0 c.close_cell.ensures.rest c.args.logs.now.items c.push_reserved.new.self.items c.requires.none
          c.push_reserved.ensures.items;
      room = c.push_reserved.ensures.capacity;
    }

-- ---- one cell more

pub close_cell-requires-in-Some-pop_front-clause-eight : goal.close_cell-requires-in-Some-pop_front-clause-eight
close_cell-requires-in-Some-pop_front-clause-eight g c =
    let was = c.loop-cell in
    let cell = c.in-Some-pop_front.cell in
    c.requires.eight _ cell
    (cell_there g.V.Volume.keeper g.A.Application.behaviour (λ x. cell_id x) c.args.cells.items (cell_id c.args.storage.now) c.args.passes.items c.requires.passes was.cells.items was.passes.items
    was.logs.items (known was.seat) was.invariant.closed cell c.pop_front-in-loop-cell.new.self.items c.in-Some-pop_front.ensures.items)

pub close_cell-requires-in-Some-pop_front-clause-next : goal.close_cell-requires-in-Some-pop_front-clause-next
close_cell-requires-in-Some-pop_front-clause-next g c =
    let was = c.loop-cell in
    next_left g.V.Volume.keeper g.A.Application.behaviour (λ x. cell_id x) c.args.cells.items (cell_id c.args.storage.now) c.args.passes.items c.requires.passes was.cells.items was.passes.items
    was.logs.items (known was.seat) was.invariant.closed c.in-Some-pop_front.cell c.pop_front-in-loop-cell.new.self.items c.in-Some-pop_front.ensures.items

pub push_reserved-requires-in-Some-pop_front : goal.push_reserved-requires-in-Some-pop_front
push_reserved-requires-in-Some-pop_front g c =
    let was = c.loop-cell in
    let few =
    logs_few g.V.Volume.keeper g.A.Application.behaviour (λ x. cell_id x) c.args.cells.items (cell_id c.args.storage.now) c.args.passes.items c.requires.passes was.cells.items was.passes.items
    was.logs.items (known was.seat) was.invariant.closed c.in-Some-pop_front.cell c.pop_front-in-loop-cell.new.self.items c.in-Some-pop_front.ensures.items in
    let room = was.invariant.room in
    let enough = c.requires.room in
    let size = was.logs.ok.0 in
    omega (arith, few, room, enough, size)

pub join-requires-clause-own : goal.join-requires-clause-own
join-requires-clause-own g c =
    let was = c.loop-cell in
    let cell = c.in-Some-pop_front.cell in
    let left = c.pop_front-in-loop-cell.new.self.items in
    let front = c.in-Some-pop_front.ensures.items in
    let h = c.close_cell-in-Some-pop_front.result in
    let given = c.into_parts-log-in-Some-pop_front.ensures in
    let log = c.into_parts-log-in-Some-pop_front.result.0 in
    let u = known c.into_parts-log-in-Some-pop_front.result.1 in
    let closes =
    closes_next g.V.Volume.keeper g.A.Application.behaviour c.args.passes.items was.passes.items _ was.invariant.closed.passes_are h log u c.close_cell-in-Some-pop_front.ensures.each given.log
    given.seat given.opened given.told given.part in (
      was.invariant.own,
      given.cell
          ∙ next_storage g.V.Volume.keeper g.A.Application.behaviour (λ x. cell_id x) c.args.cells.items (cell_id c.args.storage.now) c.args.passes.items c.requires.passes was.cells.items
          was.passes.items was.logs.items (known was.seat) was.invariant.closed cell left front h log u closes,
    )

pub join-requires-clause-adjoin : goal.join-requires-clause-adjoin
join-requires-clause-adjoin g c =
    let was = c.loop-cell in
    let cell = c.in-Some-pop_front.cell in
    let left = c.pop_front-in-loop-cell.new.self.items in
    let front = c.in-Some-pop_front.ensures.items in
    let h = c.close_cell-in-Some-pop_front.result in
    let given = c.into_parts-log-in-Some-pop_front.ensures in
    let log = c.into_parts-log-in-Some-pop_front.result.0 in
    let u = known c.into_parts-log-in-Some-pop_front.result.1 in
    let closes =
    closes_next g.V.Volume.keeper g.A.Application.behaviour c.args.passes.items was.passes.items _ was.invariant.closed.passes_are h log u c.close_cell-in-Some-pop_front.ensures.each given.log
    given.seat given.opened given.told given.part in
    next_adjoins g.V.Volume.keeper g.A.Application.behaviour (λ x. cell_id x) c.args.cells.items (cell_id c.args.storage.now) c.args.passes.items c.requires.passes was.cells.items
    was.passes.items was.logs.items (known was.seat) was.invariant.closed cell left front h log u closes

pub loop-cell-preserved : goal.loop-cell-preserved
loop-cell-preserved g c =
    let was = c.loop-cell in
    let cell = c.in-Some-pop_front.cell in
    let left = c.pop_front-in-loop-cell.new.self.items in
    let front = c.in-Some-pop_front.ensures.items in
    let h = c.close_cell-in-Some-pop_front.result in
    let given = c.into_parts-log-in-Some-pop_front.ensures in
    let log = c.into_parts-log-in-Some-pop_front.result.0 in
    let u = known c.into_parts-log-in-Some-pop_front.result.1 in
    let closes =
    closes_next g.V.Volume.keeper g.A.Application.behaviour c.args.passes.items was.passes.items _ was.invariant.closed.passes_are h log u c.close_cell-in-Some-pop_front.ensures.each given.log
    given.seat given.opened given.told given.part in
    let made = c.join.ensures in
    record {
      own = made.own;
      closed = closed_more g.V.Volume.keeper g.A.Application.behaviour (λ x. cell_id x) c.args.cells.items (cell_id c.args.storage.now) c.args.passes.items c.requires.passes was.cells.items
          was.passes.items was.logs.items (known was.seat) was.invariant.closed cell left front h log u closes
          (known c.join.new.seat) made.joined.0 made.joined.1 made.first made.own_trail made.other_trail
          c.close_cell-in-Some-pop_front.new.passes.items c.close_cell-in-Some-pop_front.ensures.rest
          c.push_reserved-in-Some-pop_front.new.self.items c.push_reserved-in-Some-pop_front.ensures.items;
      room = c.push_reserved-in-Some-pop_front.ensures.capacity ∙ was.invariant.room;
    }

-- ---- all cells

pub returns-clause-ended : goal.returns-clause-ended
returns-clause-ended g c =
    let was = c.loop-cell in
    let none : was.cells.items ≡ [] = search rules in
    all_closed g.V.Volume.keeper g.A.Application.behaviour (λ x. cell_id x) c.args.cells.items (cell_id c.args.storage.now) c.args.passes.items c.requires.passes was.cells.items was.passes.items
    was.logs.items (known was.seat) was.invariant.closed none
