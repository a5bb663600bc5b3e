use Rattle.std.proofs.Common.{not, rules}
use Rattle.std.proofs.lemmas.Fn.{filter_same}
use Rattle.handle_table.specs.Handles.{goes}
use Rattle.handle_table.proofs.lists.take_out.Goals as goal

pub returns : goal.returns
returns c = filter_same _ (λ e. not (goes c.args.closing e)) _ (λ x b f' k. search rules) _ _ c.retain.ensures.filtered
