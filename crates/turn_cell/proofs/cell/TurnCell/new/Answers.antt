-- A new cell keeps the rule, and has its name.
use Rattle.std.proofs.Common.{refl, rules}
use Rattle.turn_cell.proofs.StepLemmas.{opens}
use Rattle.turn_cell.proofs.cell.TurnCell.new.Goals as goal

pub new-requires : goal.new-requires
new-requires g c = let o = opens g.T.Parted.parts_of g.T.Parted.trail_of c.args.value in search rules

pub returns-in-Ok-new-clause-name : goal.returns-in-Ok-new-clause-name
returns-in-Ok-new-clause-name g c = refl
