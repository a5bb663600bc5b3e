use Rattle.std.proofs.Common.{arith}
use Rattle.object_dir.proofs.planned.is_there.Goals as goal

pub leaf-requires : goal.leaf-requires
leaf-requires g c = omega (arith, c.requires, g.met.V.Volume.whole)
