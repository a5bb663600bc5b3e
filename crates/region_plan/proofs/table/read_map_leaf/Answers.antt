use Rattle.std.proofs.Common.{arith}
use Rattle.region_plan.proofs.FormLemmas.{laid_by}
use Rattle.region_plan.proofs.table.read_map_leaf.Goals as goal

pub overflow_cast-leaf : goal.overflow_cast-leaf
overflow_cast-leaf g c = (let few = (laid_by c.args.form).few in omega (arith, few, c.requires.leaf))

pub read-requires : goal.read-requires
read-requires g c = (let more = (laid_by c.args.form).more in omega (arith, more, c.requires.leaf, c.requires.fits))

pub take_entries-requires : goal.take_entries-requires
take_entries-requires g c = (let few = (laid_by c.args.form).few in omega (arith, few, c.requires.leaf))
