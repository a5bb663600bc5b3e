-- The release keeps the rule.
use Rattle.std.proofs.Common.{arith}
use Rattle.turn_cell.proofs.StepLemmas.{releases_allowed}
use Rattle.turn_cell.proofs.cell.TurnCell.release.Goals as goal

pub store-requires : goal.store-requires
store-requires g c =
    let home = c.requires.home in (
      c.requires.own,
      omega (arith, c.args.self.now.shaped.0),
      releases_allowed g.T.Parted.parts_of g.T.Parted.trail_of _ _ _ c.args.seat.now.me home.0 home.1 home.2 c.requires.some_part,
    )

pub returns-clause-same_length : goal.returns-clause-same_length
returns-clause-same_length g c = c.store.ensures.2.1
