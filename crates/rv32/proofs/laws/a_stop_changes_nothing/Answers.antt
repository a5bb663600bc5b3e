use Rattle.rv32.proofs.Stops.{step-leaves}
use Rattle.rv32.proofs.laws.a_stop_changes_nothing.Goals as goal

pub returns : goal.returns
returns c = step-leaves
