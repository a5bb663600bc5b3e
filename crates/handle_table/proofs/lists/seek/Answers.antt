use Rattle.std.proofs.Common.{ap}
use Rattle.handle_table.specs.Handles.{is_at, entry_sought}
use Rattle.handle_table.proofs.Keeps.{entry_of}
use Rattle.handle_table.proofs.Changes.{changed_here, nowhere_changed}
use Rattle.handle_table.proofs.lists.seek.Goals as goal

pub returns-in-Some : goal.returns-in-Some
returns-in-Some c = changed_here (is_at c.args.instance c.args.number) (entry_sought c.args.position) c.args.handles.now.items c.as_slice.result.now c.in-Some.place
    c.index_mut.result.now _ c.in-Some.ensures c.as_slice.ensures.value c.index_mut.ensures.value (ap (entry_of c.index_mut.result.now.instance c.index_mut.result.now.number)
    c.seek.ensures)

pub returns-in_default : goal.returns-in_default
returns-in_default c = nowhere_changed (is_at c.args.instance c.args.number) (entry_sought c.args.position) c.args.handles.now.items c.as_slice.result.now c.in_default.ensures c.as_slice.ensures.value
