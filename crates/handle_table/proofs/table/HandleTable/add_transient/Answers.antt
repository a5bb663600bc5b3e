use Rattle.std.proofs.Common.{sym, ◌∙◌, arith}
use Rattle.handle_table.specs.declared.handle.Handle.TheVariants.{Transient}
use Rattle.handle_table.proofs.Keeps.{added_IsTable}
use Rattle.handle_table.proofs.table.HandleTable.add_transient.Goals as goal

pub invariant_of-self-2 : goal.invariant_of-self-2
invariant_of-self-2 c = added_IsTable c.self.inside.shares c.self.inside.shares (record { handles = c.self.inside.handles.items; pending = c.self.inside.pending }) c.args.self.now
    c.add.new.handles.items c.args.instance c.in-Ok.number Transient c.self.view_is c.requires (sym c.is_full.ensures ∙ c.if-is_full.false) c.in-Ok.ensures.ok.1 (λ p. omega arith)
    c.self.invariant
