use Rattle.region_plan.specs.Layout.{layout}
use Rattle.region_plan.specs.Tables.{IsWithin}
use Rattle.region_plan.proofs.OrderLemmas.{found_within}
use Rattle.region_plan.proofs.table.find.Goals as goal

pub returns-clause-within : goal.returns-clause-within
returns-clause-within c = found_within (IsWithin (layout c.args.form)) c.args.id.now c.args.inodes.now c.find.result c.requires c.find.ensures
