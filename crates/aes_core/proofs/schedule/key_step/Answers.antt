use Rattle.std.proofs.Common.{◌∙◌}
use Rattle.aes_core.proofs.KeyLemmas.{key_step_first, key_step_second, key_step_short, key_step_other}
use Rattle.aes_core.proofs.schedule.key_step.Goals as goal
use Rattle.aes_core.proofs.schedule.key_step.Goals.{else-nk-gt6-via-then-nk-gt6+else-i-nk-eq4, else-nk-gt6-via-else-nk-gt6}

pub returns-then-i-nk-eq0 : goal.returns-then-i-nk-eq0
returns-then-i-nk-eq0 c =
    rw (c.sub_word.ensures, c.rotate_left.ensures, c.round_constant.ensures)
    (key_step_first c.args.nk c.args.i c.args.before c.if-i-nk-eq0.true)

pub returns-then-i-nk-eq4 : goal.returns-then-i-nk-eq4
returns-then-i-nk-eq4 c =
    c.sub_word-then-i-nk-eq4.ensures ∙ key_step_second c.args.nk c.args.i c.args.before c.if-nk-gt6.true c.if-i-nk-eq4.true

pub returns-else-nk-gt6 : goal.returns-else-nk-gt6
returns-else-nk-gt6 c = elim c.else-nk-gt6.branch [
  | else-nk-gt6-via-then-nk-gt6+else-i-nk-eq4 w ↦
      key_step_other c.args.nk c.args.i c.args.before c.if-i-nk-eq0.false w.if-nk-gt6.true w.if-i-nk-eq4.false
  | else-nk-gt6-via-else-nk-gt6 w ↦
      key_step_short c.args.nk c.args.i c.args.before c.if-i-nk-eq0.false w.if-nk-gt6.false
]
