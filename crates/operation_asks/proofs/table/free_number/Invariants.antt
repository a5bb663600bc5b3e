use Rattle.std.proofs.Common.{◌≡◌, map, filter, take}
use Rattle.operation_asks.specs.Represents.{has_instance}
use Rattle.operation_asks.proofs.table.free_number.Given as goal

abbrev pub invariant-loop-entry : goal.invariant-loop-entry
invariant-loop-entry l = l.taken.items ≡ map (λ e. e.number) (filter (has_instance l.instance) (take l.entry-index l.entries))
