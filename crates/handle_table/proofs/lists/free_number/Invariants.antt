use Rattle.std.proofs.Common.{◌≡◌, map, filter, take}
use Rattle.handle_table.specs.Handles.{is_of}
use Rattle.handle_table.proofs.lists.free_number.Given as goal

abbrev pub invariant-loop-entry : goal.invariant-loop-entry
invariant-loop-entry l = l.taken.items ≡ map (λ e. e.number) (filter (is_of l.instance) (take l.entry-index l.handles))
