use Rattle.script.proofs.number.number32.Goals as goal

pub returns : goal.returns
returns c = c.in_ok-n.ensures.value
