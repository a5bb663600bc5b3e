use Rattle.std.proofs.Common.{refl}
use Rattle.turn_cell.specs.Words.{cell_id_of, view as known}
use Rattle.shared_parts.proofs.HostedLemmas.{hosted_same, new_hosted}
use Rattle.shared_parts.proofs.hosted.HostedApp.new.Goals as goal

pub invariant_of-result : goal.invariant_of-result
invariant_of-result g c =
    let made = c.in-Ok.ensures in
    let first = c.in-Ok.made in
    hosted_same g.V.Volume.keeper g.A.Application.behaviour c.args.app (cell_id_of c.args.seat) c.of-start.result.value first c.in-Ok-new.recorded.value (known c.args.seat) _
    c.in-Ok-new.ensures.ok
    (new_hosted g.V.Volume.keeper g.A.Application.behaviour c.args.app (cell_id_of c.args.seat) c.of-start.result.value c.args.side first.side first.log (known c.args.seat) _
    c.requires.seat c.requires.index c.requires.calm c.requires.works c.of-start.ensures made.side made.log refl made.kept)
