use Rattle.handle_table.proofs.Keeps.{ended_IsTable}
use Rattle.handle_table.proofs.table.HandleTable.end_rename.Goals as goal

pub invariant_of-self : goal.invariant_of-self
invariant_of-self c = ended_IsTable c.self.inside.shares c.end_rename.new.shares (record { handles = c.self.inside.handles.items; pending = c.self.inside.pending })
    c.end_rename.new.handles.items c.take.new.self c.in-Some.rename c.args.took c.take.ensures.after c.end_rename.ensures.handles c.end_rename.ensures.shares c.self.invariant
