use Rattle.std.proofs.Common.{arith, ◌∙◌}
use Rattle.shared_parts.proofs.StepLemmas.{begun_kept}
use Rattle.shared_parts.proofs.recorded.Recorded.new.Goals as goal

pub returns-clause-kept : goal.returns-clause-kept
returns-clause-kept g c = λ m stands.
    let made = c.reserve.new.self in
    begun_kept g.A.Application.behaviour 4 c.args.side made.side made.log m c.in_ok-reserve.ensures.side (c.in_ok-reserve.ensures.log.entries ∙ c.new.ensures) (omega arith)
    c.in_ok-reserve.ensures.reserved stands
