use Rattle.region_plan.proofs.LeafLemmas.{zero_behind}
use Rattle.v1_volume.proofs.rules.is_zero_behind.Goals as goal

pub returns : goal.returns
returns c = zero_behind c.args.leaf.now c.args.used c.min-from.result c.all_zero.result c.told-leaf c.min-from.ensures c.all_zero.ensures
