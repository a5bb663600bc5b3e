use Rattle.operation_asks.proofs.TableLemmas.{slot, nowhere, Slot}
use Rattle.operation_asks.proofs.AskLemmas.{begin_none, begin_refused, begin_wants, begin_cleared, not_zero, same_some, with_settled}
use Rattle.std.proofs.Common.{◌≡◌, true, ap, sym, ◌∙◌}
use Rattle.crypto_ops.specs.Operations.{may_change_key}
use Rattle.operation_asks.specs.Represents.{AreOperations}
use Rattle.operation_asks.proofs.table.begin_set_key.Goals as goal

pub returns-in_default : goal.returns-in_default
returns-in_default c os are =
    begin_none c.args.instance c.args.op c.args.object c.args.entries.now.items os are
    (nowhere c.args.instance c.args.op c.args.entries.now.items c.as_slice.result.now os are c.in_default.ensures c.as_slice.ensures.value)

pub returns-then-not-may_change_key : goal.returns-then-not-may_change_key
returns-then-not-may_change_key c os are =
    let s : Slot c.args.instance c.args.op c.args.entries.now.items os c.in-Some.place c.index.result.now =
    slot c.args.instance c.args.op c.args.entries.now.items c.as_slice.result.now os c.in-Some.place c.index.result.now are c.in-Some.ensures c.as_slice.ensures.value c.index.ensures in
    begin_refused c.args.instance c.args.op c.args.object c.args.entries.now.items os c.in-Some.place c.index.result.now s are
    (sym (c.may_change_key.ensures s.operation s.means) ∙ c.if-not-may_change_key.true)

pub returns-then-object-ne0 : goal.returns-then-object-ne0
returns-then-object-ne0 c os are =
    let s : Slot c.args.instance c.args.op c.args.entries.now.items os c.in-Some.place c.index.result.now =
    slot c.args.instance c.args.op c.args.entries.now.items c.as_slice.result.now os c.in-Some.place c.index.result.now are c.in-Some.ensures c.as_slice.ensures.value c.index.ensures in
    begin_wants c.args.instance c.args.op c.args.object c.args.entries.now.items os c.in-Some.place c.index.result.now s are
    (sym (c.may_change_key.ensures s.operation s.means) ∙ c.if-not-may_change_key.false) (not_zero c.args.object c.if-object-ne0.true)

pub returns : goal.returns
returns c os are =
    let s : Slot c.args.instance c.args.op c.args.entries.now.items os c.in-Some.place c.index_mut.result.now =
    slot c.args.instance c.args.op c.args.entries.now.items c.as_slice.result.now os c.in-Some.place c.index_mut.result.now are c.in-Some.ensures c.as_slice.ensures.value c.index_mut.ensures.value in
    let r : Slot c.args.instance c.args.op c.args.entries.now.items os c.in-Some.place c.index.result.now =
    slot c.args.instance c.args.op c.args.entries.now.items c.as_slice.result.now os c.in-Some.place c.index.result.now are c.in-Some.ensures c.as_slice.ensures.value c.index.ensures in
    let same : s.operation ≡ r.operation = same_some s.operation r.operation (sym s.found ∙ r.found) in
    let allowed : may_change_key s.operation ≡ true = ap may_change_key same ∙ sym (c.may_change_key.ensures r.operation r.means) ∙ c.if-not-may_change_key.false in
    with_settled AreOperations _ _ _ _ _ c.told_done.ensures
    (begin_cleared c.args.instance c.args.op c.args.object c.args.entries.now.items os c.in-Some.place c.index_mut.result.now c.clear_key.result
    c.clear_key.new.self s allowed c.if-object-ne0.false (c.clear_key.ensures.answer s.operation s.means)
    (c.clear_key.ensures.after s.operation s.means))
