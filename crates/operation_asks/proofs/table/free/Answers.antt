use Rattle.operation_asks.proofs.TableLemmas.{slot_found, nowhere}
use Rattle.operation_asks.proofs.AskLemmas.{free_none, free_some, not_zero}
use Rattle.std.proofs.Common.{subst, sym}
use Rattle.operation_asks.specs.Asks.{free_effect}
use Rattle.operation_asks.specs.Represents.{AreOperations, IsEffect}
use Rattle.operation_asks.specs.declared.outcome.Outcome.{Outcome}
use Rattle.operation_asks.proofs.table.free.Goals as goal

pub returns-in_default : goal.returns-in_default
returns-in_default c os are =
    free_none c.args.instance c.args.number c.args.entries.now.items os are (not_zero c.args.number c.if-number-eq0.false)
    (nowhere c.args.instance c.args.number c.args.entries.now.items c.as_slice.result.now os are c.in_default.ensures c.as_slice.ensures.value)

pub returns : goal.returns
returns c os are =
    let o = slot_found c.args.instance c.args.number c.args.entries.now.items c.as_slice.result.now os c.in-Some._place are c.in-Some.ensures c.as_slice.ensures.value in
    subst (λ (told : Outcome). IsEffect AreOperations told (free_effect os c.args.instance c.args.number) c.take_out.new.entries.items) (sym c.done-2.ensures)
    (free_some c.args.instance c.args.number c.args.entries.now.items c.take_out.new.entries.items os o.0 are (not_zero c.args.number c.if-number-eq0.false) o.1 c.take_out.ensures)
