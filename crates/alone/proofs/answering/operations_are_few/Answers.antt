use Rattle.alone.proofs.Answered.{always_few}
use Rattle.alone.proofs.answering.operations_are_few.Goals as goal

pub returns : goal.returns
returns g c = λ host index seed store events. always_few g.A.Application.behaviour host index seed store events
