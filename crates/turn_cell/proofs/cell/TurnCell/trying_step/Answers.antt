-- A try keeps the rule, and tells the seat of the value or of the word.
use Rattle.std.proofs.Common.{arith}
use Rattle.turn_cell.proofs.StepLemmas.{tries_allowed}
use Rattle.turn_cell.proofs.cell.TurnCell.trying_step.Goals as goal

pub compare_exchange-requires : goal.compare_exchange-requires
compare_exchange-requires g c = (
  c.requires.own,
  omega (arith, c.args.self.now.shaped.0),
  tries_allowed g.T.Parted.parts_of g.T.Parted.trail_of _ _ _ _ c.args.seat.now.me c.requires.numbered c.requires.some_part,
)
