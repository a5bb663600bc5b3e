use Rattle.std.proofs.lemmas.Grind.{common_steps}
-- A join keeps the rule, and so does the load after it.
use Rattle.std.proofs.Common.{ap, ◌∙◌, arith}
use Rattle.turn_cell.specs.View.{hand_of}
use Rattle.turn_cell.proofs.RangeLemmas.{joins}
use Rattle.turn_cell.proofs.StepLemmas.{settles_allowed}
use Rattle.turn_cell.proofs.cell.TurnCell.join.Goals as goal

pub join_seat-requires : goal.join_seat-requires
join_seat-requires g c =
    let q = c.requires in
    let seat = c.args.seat.now in
    let other = c.args.other in (
      q.own.0,
      q.own.1,
      other.hand ∙ ap hand_of q.free.1,
      omega (arith, c.args.self.now.shaped.0),
      joins g.T.Parted.parts_of g.T.Parted.trail_of _ seat.seat.id other.seat.id seat.seat.me.0 other.seat.me.0 q.free.0 q.free.1 seat.some_part other.some_part q.adjoin,
    )

pub load-requires : goal.load-requires
load-requires g c = (
  c.join_seat.ensures.0 ∙ c.requires.own.0,
  omega (arith, c.args.self.now.shaped.0),
  settles_allowed g.T.Parted.parts_of g.T.Parted.trail_of _ _ _ c.join_seat.new.seat.me,
)

pub invariant_of-seat : goal.invariant_of-seat
invariant_of-seat g c = grind (arith, common_steps)
