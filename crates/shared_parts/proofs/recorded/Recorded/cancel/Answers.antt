use Rattle.std.proofs.Common.{refl}
use Rattle.shared_parts.proofs.StepLemmas.{grown_goes, same_log}
use Rattle.shared_parts.proofs.recorded.Recorded.cancel.Goals as goal

pub returns-then-is_full-clause-step : goal.returns-then-is_full-clause-step
returns-then-is_full-clause-step g c =
    let now = c.args.self.now in
    grown_goes g.A.Application.behaviour now.side now.side now.log now.log refl (same_log now.log)
