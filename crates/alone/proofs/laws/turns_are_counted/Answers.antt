use Rattle.std.proofs.Common.{refl}
use Rattle.alone.proofs.Counted.{call_counts_none, turn_counts}
use Rattle.alone.proofs.laws.turns_are_counted.Goals as goal

pub returns-clause-made : goal.returns-clause-made
returns-clause-made g c = λ serving m i. turn_counts g.A.Application.behaviour serving m i

pub returns-clause-starved : goal.returns-clause-starved
returns-clause-starved g c = λ m i. refl

pub returns-clause-called : goal.returns-clause-called
returns-clause-called g c = λ m client call. call_counts_none m client call
