use Rattle.std.proofs.Common.{arith}
use Rattle.std.proofs.lemmas.Grind.{common_steps}
use Rattle.object_dir.proofs.planned.are_all_there.Goals as goal

pub returns-clause-told : goal.returns-clause-told
returns-clause-told g c = grind (arith, common_steps)
