use Rattle.object_asks.proofs.HeldLemmas.{few_walked}
use Rattle.object_asks.proofs.held.Held.set_walk.Goals as goal

pub invariant_of-self : goal.invariant_of-self
invariant_of-self c = rw c.set.ensures (record {
  no_rename = c.self.invariant.no_rename;
  identifiers = c.self.invariant.identifiers;
  sole = c.self.invariant.sole;
  together = c.self.invariant.together;
  few_lists = λ i. few_walked c.args.instance c.args.number c.args.walk c.self.inside.lists.items i (c.self.invariant.few_lists i);
})
