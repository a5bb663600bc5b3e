use Rattle.std.proofs.Common.{◌∙◌}
use Rattle.object_asks.proofs.HeldLemmas.{places_set}
use Rattle.object_asks.specs.Held.{is_key_at}
use Rattle.object_asks.proofs.held.Held.set_key.Goals as goal

pub invariant_of-self : goal.invariant_of-self
invariant_of-self c = rw c.set.ensures (record {
  no_rename = c.self.invariant.no_rename;
  identifiers = c.self.invariant.identifiers;
  sole = c.self.invariant.sole;
  together = places_set (is_key_at c.args.instance c.args.number) c.args.key c.self.inside.keys.items ∙ c.self.invariant.together;
  few_lists = c.self.invariant.few_lists;
})
