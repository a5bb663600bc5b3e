use Rattle.std.proofs.Common.{sym, ◌∙◌}
use Rattle.tee_core.proofs.SideLemmas.{turns_here}
use Rattle.tee_core.proofs.tee.TeeOver.turns.Goals as goal

pub returns : goal.returns
returns g c = c.turns.ensures.own ∙ sym (turns_here c.args.self.now.sides.items c.args.app c.index.result.now _ c.requires c.index.ensures)
