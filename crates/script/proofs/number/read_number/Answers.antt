use Rattle.std.proofs.Common.{sym, ◌∙◌}
use Rattle.script.proofs.Decimals.{number_again, number_reads}
use Rattle.script.proofs.number.read_number.Goals as goal

pub returns : goal.returns
returns c = λ n. ((λ is. number_reads c.args.word.now n (sym c.number.ensures ∙ is)), (λ h. c.number.ensures ∙ number_again c.args.word.now n h.0 h.1))
