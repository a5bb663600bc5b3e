use Rattle.handle_table.specs.Handles.{goes}
use Rattle.handle_table.proofs.Counts.{Remains}
use Rattle.handle_table.proofs.lists.forget_all.Given as goal

abbrev pub invariant-loop-entry : goal.invariant-loop-entry
invariant-loop-entry l = Remains (goes l.closing) l.shares l.handles l.entry-index
