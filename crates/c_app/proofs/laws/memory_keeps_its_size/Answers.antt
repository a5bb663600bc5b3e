use Rattle.c_app.proofs.StepSize.{step_keeps}
use Rattle.c_app.proofs.laws.memory_keeps_its_size.Goals as goal

pub returns : goal.returns
returns c = step_keeps
