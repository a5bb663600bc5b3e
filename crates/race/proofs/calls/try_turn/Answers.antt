use Rattle.std.proofs.Common.{[]}
use Rattle.race.proofs.GoLemmas.{goes_on, knows_by, turns_next, unturned_goes, unturned_names, unturned_stop}
use Rattle.race.proofs.calls.try_turn.Goals as goal

pub returns-in-Ok-clause-ok : goal.returns-in-Ok-clause-ok
returns-in-Ok-clause-ok g c =
    let p = c.args.pass.now in
    let q = c.try_turn.new.pass in
    turns_next c.in-Ok.field-0 c.args.instance p q (knows_by 1 p q c.try_turn.ensures.goes) c.in-Ok.ensures.ok

pub pause-requires-clause-cell : goal.pause-requires-clause-cell
pause-requires-clause-cell g c =
    let p = c.args.pass.now in
    let q = c.try_turn.new.pass in
    unturned_names g.V.Volume.keeper g.A.Application.behaviour c.in-Err.why c.args.instance p q (knows_by 1 p q c.try_turn.ensures.goes) c.in-Err.ensures.err

pub returns-in-Ok-pause-clause-ok : goal.returns-in-Ok-pause-clause-ok
returns-in-Ok-pause-clause-ok g c =
    let p = c.args.pass.now in
    let q = c.try_turn.new.pass in
    goes_on p q c.pause.new.pass [] (unturned_goes g.V.Volume.keeper g.A.Application.behaviour c.in-Err.why c.args.instance p q (knows_by 1 p q c.try_turn.ensures.goes)
    c.in-Err.ensures.err) c.pause.ensures.goes

pub returns-in-Err-pause-clause-same : goal.returns-in-Err-pause-clause-same
returns-in-Err-pause-clause-same g c =
    let p = c.args.pass.now in
    let q = c.try_turn.new.pass in
    goes_on p q c.pause.new.pass [] (unturned_goes g.V.Volume.keeper g.A.Application.behaviour c.in-Err.why c.args.instance p q (knows_by 1 p q c.try_turn.ensures.goes)
    c.in-Err.ensures.err) c.pause.ensures.goes

pub returns-in-Err-pause-clause-err : goal.returns-in-Err-pause-clause-err
returns-in-Err-pause-clause-err g c =
    let p = c.args.pass.now in
    let q = c.try_turn.new.pass in
    unturned_stop g.V.Volume.keeper g.A.Application.behaviour c.in-Err.why c.args.instance c.in-Err-pause.stopped p q c.pause.new.pass (knows_by 1 p q c.try_turn.ensures.goes) c.in-Err.ensures.err
    c.in-Err-pause.ensures.err c.in-Err-pause.ensures.same
