use Rattle.handle_table.proofs.Keeps.{sought_IsTable}
use Rattle.handle_table.proofs.table.HandleTable.seek.Goals as goal

pub invariant_of-self : goal.invariant_of-self
invariant_of-self c = sought_IsTable c.self.inside.shares (record { handles = c.self.inside.handles.items; pending = c.self.inside.pending }) c.args.self.now
    c.seek.new.handles.items c.args.instance c.args.number c.args.position c.self.view_is c.requires.no_rename c.seek.ensures c.self.invariant
