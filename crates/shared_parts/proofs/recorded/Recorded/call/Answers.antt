use Rattle.std.proofs.Common.{refl}
use Rattle.alone.specs.Logs.{bytes_of_call}
use Rattle.shared_parts.proofs.StepLemmas.{bytes_fit, full_of_call, grown_goes, same_log}
use Rattle.shared_parts.proofs.recorded.Recorded.call.Goals as goal

pub make_call-requires-clause-bytes : goal.make_call-requires-clause-bytes
make_call-requires-clause-bytes g c =
    let log = c.args.self.now.log.entries in
    bytes_fit log (bytes_of_call c.args.call) (full_of_call log (bytes_of_call c.args.call) c.call_bytes.result c.is_full.result _ c.call_bytes.ensures.value c.is_full.ensures c.if-is_full.false)

pub returns-then-is_full-clause-step : goal.returns-then-is_full-clause-step
returns-then-is_full-clause-step g c =
    let now = c.args.self.now in
    grown_goes g.A.Application.behaviour now.side now.side now.log now.log refl (same_log now.log)

pub returns-then-is_full-clause-err : goal.returns-then-is_full-clause-err
returns-then-is_full-clause-err g c =
    let log = c.args.self.now.log.entries in
    (same_log c.args.self.now.log, full_of_call log (bytes_of_call c.args.call) c.call_bytes.result c.is_full.result _ c.call_bytes.ensures.value c.is_full.ensures c.if-is_full.true)

pub returns-in-Ok-clause-room : goal.returns-in-Ok-clause-room
returns-in-Ok-clause-room g c =
    let log = c.args.self.now.log.entries in
    full_of_call log (bytes_of_call c.args.call) c.call_bytes.result c.is_full.result _ c.call_bytes.ensures.value c.is_full.ensures c.if-is_full.false
