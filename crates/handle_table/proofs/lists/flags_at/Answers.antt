use Rattle.std.proofs.Common.{ap, sym, refl, ◌∙◌, option_map, Option}
use Rattle.std.specs.Option.{option_and_then}
use Rattle.handle_table.specs.declared.handle.Entry.{Entry}
use Rattle.handle_table.specs.Handles.{is_at, entry_share}
use Rattle.handle_table.proofs.Changes.{found_here, found_nowhere}
use Rattle.handle_table.proofs.lists.flags_at.Goals as goal

pub returns-in_err-place : goal.returns-in_err-place
returns-in_err-place c = c.from_residual.ensures ∙ sym (ap (λ (o : Option Entry). option_map (λ s. s.flags) (option_and_then entry_share o))
    (found_nowhere (is_at c.args.instance c.args.number) c.args.handles.now c.args.handles.now (sym c.in_err-place.was ∙ c.place_of.ensures) refl))

pub returns : goal.returns
returns c = c.flags.ensures ∙ ap (λ (e : Entry). option_map (λ s. s.flags) (entry_share e)) (sym c.index-handles-place.is)
    ∙ sym (ap (λ (o : Option Entry). option_map (λ s. s.flags) (option_and_then entry_share o)) (found_here (is_at c.args.instance c.args.number) c.args.handles.now
    c.args.handles.now c.in_ok-place.place c.index-handles-place.result c.in_ok-place.ensures refl c.index-handles-place.is))
