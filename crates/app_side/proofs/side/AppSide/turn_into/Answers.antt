use Rattle.app_side.proofs.Numbered.{numbered}
use Rattle.app_side.proofs.side.AppSide.turn_into.Goals as goal

pub returns-clause-turn : goal.returns-clause-turn
returns-clause-turn g c =
    numbered g.A.Application.behaviour g.T.AppStore.keeper c.args.instance c.take_turn-kind.result c.take_turn-kind.new.replies c.args.self.now c.take_turn-kind.new.self
    c.args.store.now c.take_turn-kind.new.store c.take_turn-kind.ensures.turn
