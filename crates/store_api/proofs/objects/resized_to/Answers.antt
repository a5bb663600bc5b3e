use Rattle.std.proofs.Common.{arith}
use Rattle.std.proofs.lemmas.Grind.{common_steps}
use Rattle.std.proofs.Common.{rules}
use Rattle.store_api.proofs.objects.resized_to.Goals as goal

pub returns : goal.returns
returns c = grind (arith, common_steps)
