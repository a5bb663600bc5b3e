-- A cut keeps the rule.
use Rattle.std.proofs.Common.{arith}
use Rattle.turn_cell.proofs.RangeLemmas.{splits}
use Rattle.turn_cell.proofs.cell.TurnCell.cut.Goals as goal

pub split_seat-requires : goal.split_seat-requires
split_seat-requires g c =
    let q = c.requires in
    let seat = c.args.seat.now.seat in (
      q.own,
      omega (arith, c.args.self.now.shaped.0),
      rw (q.left, q.right) (splits g.T.Parted.parts_of g.T.Parted.trail_of _ seat.id seat.me.0 c.args.from q.free q.inside.0 q.inside.1),
    )
