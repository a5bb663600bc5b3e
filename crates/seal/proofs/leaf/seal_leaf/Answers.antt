use Rattle.seal.specs.Sealing.{ciphertext}
use Rattle.std.proofs.Common.{rules}
use Rattle.seal.proofs.leaf.seal_leaf.Goals as goal

pub returns : goal.returns
unfolding ciphertext
returns c = search rules
