use Rattle.operation_asks.proofs.TableLemmas.{all_freed_same}
use Rattle.std.proofs.Common.{not, rules, subst, sym, List}
use Rattle.std.proofs.lemmas.Fn.{filter_same}
use Rattle.operation_asks.specs.declared.table.Entry.{Entry}
use Rattle.operation_asks.specs.Table.{all_freed}
use Rattle.operation_asks.specs.Represents.{AreOperations, has_instance}
use Rattle.operation_asks.proofs.table.free_all.Goals as goal

pub returns : goal.returns
returns c os are =
    subst (λ (vs : List Entry). AreOperations vs (all_freed os c.args.instance))
    (sym (filter_same _ (λ e. not (has_instance c.args.instance e)) _ (λ x b f' k. search rules) _ _ c.retain.ensures.filtered))
    (all_freed_same c.args.instance c.args.entries.now.items os are)
