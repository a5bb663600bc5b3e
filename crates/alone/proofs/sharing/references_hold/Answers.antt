use Rattle.alone.proofs.Room.{always_room}
use Rattle.alone.proofs.Usable.{always_usable}
use Rattle.alone.proofs.sharing.references_hold.Goals as goal

pub returns-clause-usable : goal.returns-clause-usable
returns-clause-usable g c = λ host index seed store events. always_usable g.A.Application.behaviour host index seed store events

pub returns-clause-room : goal.returns-clause-room
returns-clause-room g c = λ host index seed store events. always_room g.A.Application.behaviour host index seed store events
