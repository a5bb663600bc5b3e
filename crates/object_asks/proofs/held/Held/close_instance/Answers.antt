use Rattle.std.proofs.Common.{not, ◌==◌}
use Rattle.handle_table.specs.Handles.{is_of}
use Rattle.object_asks.specs.Handles.{entry_has_identifier}
use Rattle.object_asks.specs.Held.{is_list_of}
use Rattle.object_asks.proofs.HandleLemmas.{all_left}
use Rattle.object_asks.proofs.HeldLemmas.{few_left, together_left}
use Rattle.object_asks.proofs.SoundHandles.{fewer_sole}
use Rattle.object_asks.proofs.held.Held.close_instance.Goals as goal

pub invariant_of-self : goal.invariant_of-self
invariant_of-self c = rw (c.close_all.ensures, c.take_keys.ensures, c.take_lists.ensures) (record {
  no_rename = c.self.invariant.no_rename;
  identifiers = all_left entry_has_identifier (λ e. not (is_of c.args.instance e)) c.self.inside.table.handles c.self.invariant.identifiers;
  sole = fewer_sole (λ e. not (is_of c.args.instance e)) c.self.inside.table.handles c.self.invariant.sole;
  together = together_left (λ p. not (p.0 == c.args.instance)) c.self.inside.table.handles c.self.inside.keys.items c.self.invariant.together;
  few_lists = λ i. few_left (λ l. not (is_list_of c.args.instance l)) (is_list_of i) c.self.inside.lists.items (c.self.invariant.few_lists i);
})
