use Rattle.std.proofs.Common.{rules}
use Rattle.object_dir.proofs.region.RegionLeafSource.leaf.Goals as goal

pub returns : goal.returns
returns g c = search rules
