use Rattle.std.proofs.Common.{ap, true}
use Rattle.alone.specs.Machine.{Machine}
use Rattle.app_side.proofs.side.AppSide.lose.Goals as goal

pub returns-clause-step : goal.returns-clause-step
returns-clause-step g c m stands = record { doubt = stands.doubt; parts = ap (λ (x : Machine g.row.A.Denot). record x { lost = true }) stands.parts }
