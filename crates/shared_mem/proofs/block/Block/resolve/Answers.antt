use Rattle.std.proofs.Common.{arith}
use Rattle.shared_mem.proofs.Keeps.{length_fits}
use Rattle.shared_mem.proofs.block.Block.resolve.Goals as goal

pub overflow_cast-result : goal.overflow_cast-result
overflow_cast-result c = omega (arith, c.length_in-size.ensures, length_fits c.args.self.now c.args.reference.now c.requires.fits c.requires.small)
