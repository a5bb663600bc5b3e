use Rattle.std.proofs.Common.{rules}
use Rattle.tee_base.proofs.streams.StdSinkSink.write.Goals as goal

pub returns-in_default-clause-appended : goal.returns-in_default-clause-appended
returns-in_default-clause-appended g c = search rules
