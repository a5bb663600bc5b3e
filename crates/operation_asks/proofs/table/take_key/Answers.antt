use Rattle.operation_asks.proofs.TableLemmas.{slot, nowhere, Slot}
use Rattle.operation_asks.proofs.AskLemmas.{key_none, key_slot, with_told}
use Rattle.std.proofs.Common.{ap, ◌∙◌, List, ℕ, subst}
use Rattle.operation_asks.specs.Represents.{AreOperations}
use Rattle.crypto_ops.specs.Operations.{with_key, set_key_answer, after_ok}
use Rattle.crypto_ops.specs.Represents.{Represents}
use Rattle.operation_asks.proofs.table.take_key.Goals as goal

pub returns-in_default : goal.returns-in_default
returns-in_default c os are =
    key_none c.args.instance c.args.op c.args.entries.now.items os c.args.key.now are
    (nowhere c.args.instance c.args.op c.args.entries.now.items c.as_slice.result.now os are c.in_default.ensures c.as_slice.ensures.value)

pub returns : goal.returns
returns c os are =
    let s : Slot c.args.instance c.args.op c.args.entries.now.items os c.in-Some.place c.index_mut.result.now =
    slot c.args.instance c.args.op c.args.entries.now.items c.as_slice.result.now os c.in-Some.place c.index_mut.result.now are c.in-Some.ensures c.as_slice.ensures.value c.index_mut.ensures.value in
    let same = c.as_slice-secret.ensures.bytes in
    with_told AreOperations _ _ _ _ c.told_done.ensures
    (key_slot c.args.instance c.args.op c.args.entries.now.items os c.in-Some.place c.index_mut.result.now c.args.key.now c.set_key.result c.set_key.new.self s
    (c.set_key.ensures.answer s.operation s.means ∙ ap (set_key_answer s.operation c.args.key.now.kind c.args.key.now.usage) same)
    (subst (λ (b : List ℕ). Represents c.set_key.new.self (after_ok c.set_key.result s.operation (with_key s.operation b))) same (c.set_key.ensures.after s.operation s.means)))
