use Rattle.std.proofs.Common.{◌+◌, ap}
use Rattle.alone.specs.Machine.{Machine}
use Rattle.alone.specs.Step.{turn_counted}
use Rattle.app_side.specs.Represents.{Represents}
use Rattle.app_side.specs.declared.side.AppSide.{AppSide}
use Rattle.app_side.proofs.side.AppSide.starve.Goals as goal

-- one turn more was made
counted : {A : Type 0} (side : AppSide A) (m : Machine A) → Represents side m → Represents (record side { turns = side.turns + 1 }) (turn_counted m)
counted {A} side m stands = record { doubt = stands.doubt; parts = ap (λ (x : Machine A). turn_counted x) stands.parts }

pub returns-clause-step : goal.returns-clause-step
returns-clause-step g c m stands = c.teardown.ensures.machine (turn_counted m) (counted c.args.self.now m stands)

pub returns-clause-replies : goal.returns-clause-replies
returns-clause-replies g c m stands = c.teardown.ensures.replies (turn_counted m) (counted c.args.self.now m stands)
