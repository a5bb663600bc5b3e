use Rattle.std.proofs.Common.{not, ◌&&◌, ◌==◌}
use Rattle.handle_table.specs.Handles.{is_at}
use Rattle.object_asks.specs.Handles.{entry_has_identifier}
use Rattle.object_asks.proofs.HandleLemmas.{all_left}
use Rattle.object_asks.proofs.HeldLemmas.{together_left}
use Rattle.object_asks.proofs.SoundHandles.{fewer_sole}
use Rattle.object_asks.proofs.held.Held.close.Goals as goal

pub invariant_of-self : goal.invariant_of-self
invariant_of-self c = rw (c.close.ensures, c.take_key.ensures) (record {
  no_rename = c.self.invariant.no_rename;
  identifiers = all_left entry_has_identifier (λ e. not (is_at c.args.instance c.args.number e)) c.self.inside.table.handles c.self.invariant.identifiers;
  sole = fewer_sole (λ e. not (is_at c.args.instance c.args.number e)) c.self.inside.table.handles c.self.invariant.sole;
  together = together_left (λ p. not ((p.0 == c.args.instance) && (p.1 == c.args.number))) c.self.inside.table.handles c.self.inside.keys.items c.self.invariant.together;
  few_lists = c.self.invariant.few_lists;
})
