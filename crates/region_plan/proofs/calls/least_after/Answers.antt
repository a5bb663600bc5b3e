use Rattle.std.proofs.Common.{option_copied}
use Rattle.region_plan.specs.Layout.{layout}
use Rattle.region_plan.specs.Tables.{IsWithin}
use Rattle.region_plan.proofs.OrderedLemmas.{listed_within}
use Rattle.region_plan.proofs.calls.least_after.Goals as goal

pub returns-clause-within : goal.returns-clause-within
returns-clause-within c = listed_within (IsWithin (layout c.args.form)) (option_copied c.args.last) c.args.inodes.now c.next_after.result c.requires c.next_after.ensures
