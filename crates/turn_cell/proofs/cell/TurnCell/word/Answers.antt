-- A look keeps the rule.
use Rattle.std.proofs.Common.{arith}
use Rattle.turn_cell.proofs.StepLemmas.{looks_allowed}
use Rattle.turn_cell.proofs.cell.TurnCell.word.Goals as goal

pub load-requires : goal.load-requires
load-requires g c = (c.requires.own, omega (arith, c.args.self.now.shaped.0), looks_allowed g.T.Parted.parts_of g.T.Parted.trail_of _ _ _ _)
