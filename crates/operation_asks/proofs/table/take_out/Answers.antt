use Rattle.std.proofs.Common.{not, rules}
use Rattle.std.proofs.lemmas.Fn.{filter_same}
use Rattle.operation_asks.specs.Represents.{has_number}
use Rattle.operation_asks.proofs.table.take_out.Goals as goal

pub returns : goal.returns
returns c = filter_same _ (λ e. not (has_number c.args.instance c.args.number e)) _ (λ x b f' k. search rules) _ _ c.retain.ensures.filtered
