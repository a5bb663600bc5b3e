use Rattle.std.proofs.Common.{ap, sym, ◌∙◌}
use Rattle.std.specs.Option.{option_and_then}
use Rattle.handle_table.specs.Handles.{is_at, entry_moved, entry_share}
use Rattle.handle_table.proofs.Keeps.{entry_of}
use Rattle.handle_table.proofs.Changes.{changed_here, nowhere_changed, found_here, found_nowhere}
use Rattle.handle_table.proofs.lists.move_to.Goals as goal

pub returns-in_err-place-clause-before : goal.returns-in_err-place-clause-before
returns-in_err-place-clause-before c = c.from_residual.ensures ∙ sym (ap (option_and_then entry_share)
    (found_nowhere (is_at c.args.instance c.args.number) c.args.handles.now.items c.as_slice.result.now (sym c.in_err-place.was ∙ c.place_of.ensures) c.as_slice.ensures.value))

pub returns-in_err-place-clause-after : goal.returns-in_err-place-clause-after
returns-in_err-place-clause-after c = nowhere_changed (is_at c.args.instance c.args.number) (entry_moved c.args.to) c.args.handles.now.items c.as_slice.result.now
    (sym c.in_err-place.was ∙ c.place_of.ensures) c.as_slice.ensures.value

pub returns-clause-before : goal.returns-clause-before
returns-clause-before c = c.move_to.ensures.before ∙ sym (ap (option_and_then entry_share) (found_here (is_at c.args.instance c.args.number) c.args.handles.now.items
    c.as_slice.result.now c.in_ok-place.place c.index_mut.result.now c.in_ok-place.ensures c.as_slice.ensures.value c.index_mut.ensures.value))

pub returns-clause-after : goal.returns-clause-after
returns-clause-after c = changed_here (is_at c.args.instance c.args.number) (entry_moved c.args.to) c.args.handles.now.items c.as_slice.result.now c.in_ok-place.place
    c.index_mut.result.now _ c.in_ok-place.ensures c.as_slice.ensures.value c.index_mut.ensures.value
    (ap (entry_of c.index_mut.result.now.instance c.index_mut.result.now.number) c.move_to.ensures.after)
