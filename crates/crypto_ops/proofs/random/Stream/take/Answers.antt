use Rattle.std.proofs.Common.{rules}
use Rattle.crypto_ops.proofs.random.Stream.take.Goals as goal

pub returns-clause-moved : goal.returns-clause-moved
returns-clause-moved c = search rules
