use Rattle.std.proofs.Common.{refl}
use Rattle.alone.proofs.Booted.{call_boots_none, cancellation_boots_none, turn_boots_none}
use Rattle.alone.proofs.laws.boots_stay.Goals as goal

pub returns-clause-made : goal.returns-clause-made
returns-clause-made g c = λ serving m i. turn_boots_none g.A.Application.behaviour serving m i

pub returns-clause-starved : goal.returns-clause-starved
returns-clause-starved g c = λ m i. refl

pub returns-clause-called : goal.returns-clause-called
returns-clause-called g c = λ m client call. call_boots_none m client call

pub returns-clause-cancelled : goal.returns-clause-cancelled
returns-clause-cancelled g c = λ m op. cancellation_boots_none m op
