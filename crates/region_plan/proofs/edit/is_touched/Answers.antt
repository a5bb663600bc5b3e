use Rattle.std.proofs.Common.{rules}
use Rattle.region_plan.proofs.edit.is_touched.Goals as goal

pub returns-else-is_cut : goal.returns-else-is_cut
returns-else-is_cut c = search rules
