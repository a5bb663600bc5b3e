use Rattle.std.proofs.Common.{arith}
use Rattle.std.proofs.lemmas.Grind.{common_steps}
use Rattle.instances.proofs.tables.after_end.Goals as goal

pub loop-session-preserved : goal.loop-session-preserved
loop-session-preserved c = grind (arith, common_steps)
