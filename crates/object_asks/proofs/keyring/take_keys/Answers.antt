use Rattle.std.proofs.Common.{not, rules}
use Rattle.std.proofs.lemmas.Fn.{filter_same}
use Rattle.object_asks.specs.Held.{is_key_of}
use Rattle.object_asks.proofs.keyring.take_keys.Goals as goal

pub returns : goal.returns
returns c = filter_same _ (λ k. not (is_key_of c.args.instance k)) _ (λ x b f' k. search rules) _ _ c.retain.ensures.filtered
