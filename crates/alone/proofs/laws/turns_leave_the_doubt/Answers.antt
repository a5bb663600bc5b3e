use Rattle.std.proofs.Common.{refl}
use Rattle.alone.proofs.Storage.{damage_leaves_doubt, turn_leaves_doubt}
use Rattle.alone.proofs.laws.turns_leave_the_doubt.Goals as goal

pub returns-clause-serves : goal.returns-clause-serves
returns-clause-serves g c = λ m i. turn_leaves_doubt g.A.Application.behaviour m i

pub returns-clause-damaged : goal.returns-clause-damaged
returns-clause-damaged g c = λ m i. damage_leaves_doubt g.A.Application.behaviour m i

pub returns-clause-starved : goal.returns-clause-starved
returns-clause-starved g c = λ m i. refl
