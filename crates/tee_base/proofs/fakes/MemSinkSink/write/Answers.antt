use Rattle.std.proofs.Common.{rules}
use Rattle.tee_base.proofs.fakes.MemSinkSink.write.Goals as goal

pub returns-clause-plan : goal.returns-clause-plan
returns-clause-plan c = search rules
