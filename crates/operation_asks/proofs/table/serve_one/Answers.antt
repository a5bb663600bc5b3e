use Rattle.operation_asks.proofs.TableLemmas.{slot, nowhere, Slot}
use Rattle.operation_asks.proofs.AskLemmas.{on_none, on_slot, want_slot}
use Rattle.operation_asks.proofs.table.serve_one.Goals as goal

pub returns-in_default-clause-served : goal.returns-in_default-clause-served
returns-in_default-clause-served c os are =
    on_none c.args.instance c.args.number c.args.entries.now.items os c.args.ask.now are
    (nowhere c.args.instance c.args.number c.args.entries.now.items c.as_slice.result.now os are c.in_default.ensures c.as_slice.ensures.value)

pub returns-clause-served : goal.returns-clause-served
returns-clause-served c os are =
    let s : Slot c.args.instance c.args.number c.args.entries.now.items os c.in-Some.place c.index_mut.result.now =
    slot c.args.instance c.args.number c.args.entries.now.items c.as_slice.result.now os c.in-Some.place c.index_mut.result.now are c.in-Some.ensures
    c.as_slice.ensures.value c.index_mut.ensures.value in
    on_slot c.args.instance c.args.number c.args.entries.now.items os c.in-Some.place c.index_mut.result.now c.args.ask.now c.serve.result
    c.serve.new.operation s (c.serve.ensures.served s.operation s.means)

pub returns-clause-want : goal.returns-clause-want
returns-clause-want c os are =
    let s : Slot c.args.instance c.args.number c.args.entries.now.items os c.in-Some.place c.index_mut.result.now =
    slot c.args.instance c.args.number c.args.entries.now.items c.as_slice.result.now os c.in-Some.place c.index_mut.result.now are c.in-Some.ensures
    c.as_slice.ensures.value c.index_mut.ensures.value in
    want_slot c.args.instance c.args.number c.args.entries.now.items os c.in-Some.place c.index_mut.result.now c.serve.result c.serve.new.operation s (c.serve.ensures.want s.operation s.means)
