use Rattle.std.proofs.Common.{not, filter, List, subst}
use Rattle.handle_table.specs.declared.handle.Entry.{Entry}
use Rattle.handle_table.specs.declared.handle.Closing.TheVariants.{All as Every}
use Rattle.handle_table.specs.Handles.{goes, HoldsFor, shares_of}
use Rattle.handle_table.proofs.Keeps.{closed_IsTable}
use Rattle.handle_table.proofs.table.HandleTable.close_all.Goals as goal

pub invariant_of-self : goal.invariant_of-self
invariant_of-self c =
    let stays = λ (e : Entry). not (goes (Every c.args.instance) e) in
    closed_IsTable c.self.inside.shares c.forget_all.new.shares (record { handles = c.self.inside.handles.items; pending = c.self.inside.pending }) c.args.self.now
    c.take_out.new.handles.items stays c.self.view_is c.requires c.take_out.ensures (subst (λ (hs : List Entry). HoldsFor c.forget_all.new.shares (shares_of (filter stays hs)))
    c.as_slice.ensures.value c.forget_all.ensures) c.self.invariant
