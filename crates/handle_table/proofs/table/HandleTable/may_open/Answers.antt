use Rattle.std.proofs.Common.{◌∙◌}
use Rattle.handle_table.proofs.Keeps.{may_open_same}
use Rattle.handle_table.proofs.table.HandleTable.may_open.Goals as goal

pub returns : goal.returns
returns c = c.may_open.ensures ∙ may_open_same c.self.inside.shares (record { handles = c.self.inside.handles.items; pending = c.self.inside.pending }) c.args.self.now
    c.args.id.now c.args.flags c.self.view_is c.requires c.self.invariant.noted
