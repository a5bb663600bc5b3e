use Rattle.std.proofs.Common.{◌+◌, ◌∙◌, ap, sym}
use Rattle.tee_core.proofs.Advancing.{says}
use Rattle.tee_core.proofs.Counts.{machine_turns}
use Rattle.tee_core.proofs.Steps.{turn_is}
use Rattle.tee_core.proofs.Turns.{kind_counts}
use Rattle.tee_core.proofs.tee.TeeOver.turn.Goals as goal

pub returns-clause-made : goal.returns-clause-made
returns-clause-made g c = c.advance-kind.ensures.made

pub returns-clause-kept : goal.returns-clause-kept
returns-clause-kept g c = c.advance-kind.ensures.kept

pub returns-clause-told : goal.returns-clause-told
returns-clause-told g c = λ world m whole here.
    turn_is g.A.Application.behaviour m c.advance-kind.result c.args.instance c.turns.result c.advance-kind.new.replies
    (says c.advance-kind.result _ (c.advance-kind.ensures.change world m whole here))
    (c.turns.ensures ∙ c.advance-kind.ensures.turns ∙ ap (λ n. n + 1) (machine_turns c.args.self.now.sides.items world c.args.app m whole.stand.sides_are here)
    ∙ sym (kind_counts g.A.Application.behaviour m c.advance-kind.result c.args.instance))
    (c.advance-kind.ensures.replies world m whole here)
