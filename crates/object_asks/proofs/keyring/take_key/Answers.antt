use Rattle.std.proofs.Common.{not, rules}
use Rattle.std.proofs.lemmas.Fn.{filter_same}
use Rattle.object_asks.specs.Held.{is_key_at}
use Rattle.object_asks.proofs.keyring.take_key.Goals as goal

pub returns : goal.returns
returns c = filter_same _ (λ k. not (is_key_at c.args.instance c.args.number k)) _ (λ x b f' k. search rules) _ _ c.retain.ensures.filtered
