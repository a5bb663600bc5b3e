use Rattle.std.proofs.Common.{refl}
use Rattle.handle_table.proofs.Changes.{changed_here, nowhere_changed}
use Rattle.object_asks.specs.Held.{is_list_at}
use Rattle.object_asks.specs.Lists.{with_walk}
use Rattle.object_asks.proofs.walks.set.Goals as goal

pub returns-in-Some : goal.returns-in-Some
returns-in-Some c = changed_here (is_list_at c.args.instance c.args.number) (with_walk c.args.walk) c.args.lists.now.items c.as_slice.result.now c.in-Some.place
    c.index_mut.result.now _ c.in-Some.ensures c.as_slice.ensures.value c.index_mut.ensures.value refl

pub returns-in_default : goal.returns-in_default
returns-in_default c = nowhere_changed (is_list_at c.args.instance c.args.number) (with_walk c.args.walk) c.args.lists.now.items c.as_slice.result.now c.in_default.ensures c.as_slice.ensures.value
