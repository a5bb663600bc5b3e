use Rattle.turn_cell.specs.Words.{cell_id_of, view as known}
use Rattle.shared_parts.proofs.HostedLemmas.{learned_hosted}
use Rattle.shared_parts.proofs.unseated.UnseatedApp.seat.Goals as goal

pub invariant_of-result : goal.invariant_of-result
invariant_of-result g c =
    let u = c.args.self in
    learned_hosted g.V.Volume.keeper g.A.Application.behaviour u.app (cell_id_of c.args.seat) u.start.value u.recorded.value.side u.recorded.value.log c.requires.0 (known c.args.seat) u.misses
    c.requires.1 c.requires.2
