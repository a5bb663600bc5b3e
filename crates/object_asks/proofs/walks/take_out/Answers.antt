use Rattle.std.proofs.Common.{not, rules}
use Rattle.std.proofs.lemmas.Fn.{filter_same}
use Rattle.object_asks.specs.Held.{is_list_at}
use Rattle.object_asks.proofs.walks.take_out.Goals as goal

pub returns : goal.returns
returns c = filter_same _ (λ l. not (is_list_at c.args.instance c.args.number l)) _ (λ x b f' k. search rules) _ _ c.retain.ensures.filtered
