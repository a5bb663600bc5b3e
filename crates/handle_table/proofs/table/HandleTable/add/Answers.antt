use Rattle.std.proofs.Common.{◌++◌, ◌∷◌, [], List, ℕ, ap, sym, ◌∙◌}
use Rattle.handle_table.specs.declared.handle.Handle.TheVariants.{Persistent}
use Rattle.handle_table.proofs.Keeps.{entry_of, added_IsTable, gained_noted, taken_back, same_IsTable}
use Rattle.handle_table.proofs.table.HandleTable.add.Goals as goal

pub invariant_of-self-in-Ok-add : goal.invariant_of-self-in-Ok-add
invariant_of-self-in-Ok-add c =
    added_IsTable c.self.inside.shares c.note.new.self (record { handles = c.self.inside.handles.items; pending = c.self.inside.pending }) c.args.self.now c.add.new.handles.items
    c.args.instance c.in-Ok-add.number (Persistent c.args.id.now c.args.flags 0) c.self.view_is c.requires.no_rename (sym c.is_full.ensures ∙ c.if-is_full.false)
    (c.in-Ok-add.ensures.ok.1 ∙ ap (λ (id : List ℕ). c.self.inside.handles.items ++ entry_of c.args.instance c.in-Ok-add.number (Persistent id c.args.flags 0) ∷ []) c.in-Ok.ensures)
    c.in-Ok-note.ensures.noted c.self.invariant

pub release-requires : goal.release-requires
release-requires c = gained_noted c.self.inside.shares c.note.new.self c.args.id.now c.args.flags c.in-Ok-note.ensures.noted

pub invariant_of-self-in-Err : goal.invariant_of-self-in-Err
invariant_of-self-in-Err c = same_IsTable c.self.inside.shares c.release.new.self (record { handles = c.self.inside.handles.items; pending = c.self.inside.pending })
    c.add.new.handles.items (taken_back c.self.inside.shares c.note.new.self c.release.new.self c.args.id.now c.args.flags c.in-Ok-note.ensures.noted c.release.ensures)
    c.in-Err.ensures.unchanged c.self.invariant
