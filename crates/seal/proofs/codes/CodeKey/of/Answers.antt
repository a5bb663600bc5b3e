use Rattle.seal.specs.Keys.{IsCodeKeyOf}
use Rattle.std.proofs.Common.{rules}
use Rattle.seal.proofs.codes.CodeKey.of.Goals as goal

pub returns : goal.returns
unfolding IsCodeKeyOf
returns c = search rules
