use Rattle.c_app.proofs.Said.{step_said}
use Rattle.c_app.proofs.laws.asks_are_said.Goals as goal

pub returns : goal.returns
returns c = step_said
