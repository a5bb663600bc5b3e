use Rattle.std.proofs.Common.{rules}
use Rattle.region_plan.proofs.place.placed_entry.Goals as goal

pub returns : goal.returns
returns c = search rules
