use Rattle.std.proofs.Common.{not}
use Rattle.object_asks.specs.Held.{is_list_at, is_list_of}
use Rattle.object_asks.proofs.HeldLemmas.{few_left}
use Rattle.object_asks.proofs.held.Held.free_list.Goals as goal

pub invariant_of-self : goal.invariant_of-self
invariant_of-self c = rw c.take_out.ensures (record {
  no_rename = c.self.invariant.no_rename;
  identifiers = c.self.invariant.identifiers;
  sole = c.self.invariant.sole;
  together = c.self.invariant.together;
  few_lists = λ i. few_left (λ l. not (is_list_at c.args.instance c.args.number l)) (is_list_of i) c.self.inside.lists.items (c.self.invariant.few_lists i);
})
