use Rattle.std.proofs.Common.{rules}
use Rattle.tee_base.proofs.streams.StdSourceSource.read.Goals as goal

pub returns-in-Err-clause-taken : goal.returns-in-Err-clause-taken
returns-in-Err-clause-taken g c = search rules
