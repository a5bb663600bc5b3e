use Rattle.std.proofs.Common.{◌≡◌, map, filter, take}
use Rattle.object_asks.specs.Held.{is_list_of}
use Rattle.object_asks.proofs.walks.free_number.Given as goal

abbrev pub invariant-loop-list : goal.invariant-loop-list
invariant-loop-list l = l.taken.items ≡ map (λ e. e.number) (filter (is_list_of l.instance) (take l.list-index l.lists))
