-- The announcing step keeps the rule, and then the slot is in the seat's hands.
use Rattle.std.proofs.Common.{arith}
use Rattle.turn_cell.proofs.StepLemmas.{announces_allowed}
use Rattle.turn_cell.proofs.cell.TurnCell.slot_home.Goals as goal

pub compare_exchange_with-requires : goal.compare_exchange_with-requires
compare_exchange_with-requires g c =
    let q = c.requires in (
      q.own,
      omega (arith, c.args.self.now.shaped.0),
      announces_allowed g.T.Parted.parts_of g.T.Parted.trail_of _ _ _ _ c.args.seat.now.me c.args.value q.numbered q.holds q.parts q.trail,
    )
