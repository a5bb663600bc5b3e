use Rattle.rv32.proofs.Zero.{step-zero}
use Rattle.rv32.proofs.laws.x0_stays_zero.Goals as goal

pub returns : goal.returns
returns c = step-zero
