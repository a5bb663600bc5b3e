use Rattle.std.proofs.Common.{rules}
use Rattle.tee_base.proofs.streams.StdSource.new.Goals as goal

pub returns-clause-none : goal.returns-clause-none
returns-clause-none g c = search rules
