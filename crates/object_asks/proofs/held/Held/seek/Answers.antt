use Rattle.std.proofs.Common.{◌∙◌}
use Rattle.handle_table.specs.Handles.{is_at}
use Rattle.object_asks.proofs.HandleLemmas.{all_sought}
use Rattle.object_asks.proofs.HeldLemmas.{together_sought}
use Rattle.object_asks.proofs.SoundHandles.{moved_sole}
use Rattle.object_asks.proofs.held.Held.seek.Goals as goal

pub invariant_of-self : goal.invariant_of-self
invariant_of-self c = rw c.seek.ensures (record {
  no_rename = c.self.invariant.no_rename;
  identifiers = all_sought (is_at c.args.instance c.args.number) c.args.position c.self.inside.table.handles ∙ c.self.invariant.identifiers;
  sole = moved_sole (is_at c.args.instance c.args.number) c.args.position c.self.inside.table.handles c.self.invariant.sole;
  together = together_sought (is_at c.args.instance c.args.number) c.args.position c.self.inside.table.handles c.self.inside.keys.items c.self.invariant.together;
  few_lists = c.self.invariant.few_lists;
})
