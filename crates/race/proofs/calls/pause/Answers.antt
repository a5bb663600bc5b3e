use Rattle.race.proofs.GoLemmas.{goes_others, knows_by}
use Rattle.race.proofs.calls.pause.Goals as goal

pub returns-in-Busy-clause-goes : goal.returns-in-Busy-clause-goes
returns-in-Busy-clause-goes g c =
    goes_others c.args.pass.now c.pause.new.pass (knows_by 0 c.args.pass.now c.pause.new.pass c.pause.ensures.goes) c.pause.ensures.same.others
