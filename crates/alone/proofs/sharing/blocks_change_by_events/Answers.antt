use Rattle.alone.proofs.BlocksChange.{changes}
use Rattle.alone.proofs.sharing.blocks_change_by_events.Goals as goal

pub returns : goal.returns
returns g c = λ m event. changes g.A.Application.behaviour m event
