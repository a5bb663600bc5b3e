use Rattle.std.proofs.Common.{not, rules}
use Rattle.std.proofs.lemmas.Fn.{filter_same}
use Rattle.object_asks.specs.Held.{is_list_of}
use Rattle.object_asks.proofs.walks.take_lists.Goals as goal

pub returns : goal.returns
returns c = filter_same _ (λ l. not (is_list_of c.args.instance l)) _ (λ x b f' k. search rules) _ _ c.retain.ensures.filtered
