use Rattle.alone.proofs.Born.{step_few}
use Rattle.alone.proofs.laws.few_are_born.Goals as goal

pub returns : goal.returns
returns g c = λ m event. step_few g.A.Application.behaviour m event
