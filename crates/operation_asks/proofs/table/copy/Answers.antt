use Rattle.operation_asks.proofs.TableLemmas.{nowhere, slot_found}
use Rattle.operation_asks.proofs.AskLemmas.{copy_no_target, copy_no_source, copy_itself, with_told}
use Rattle.std.proofs.Common.{◌≡◌, Some, ap, sym, ◌∙◌}
use Rattle.std.specs.List.{position}
use Rattle.operation_asks.specs.Represents.{AreOperations, has_number}
use Rattle.operation_asks.proofs.table.copy.Goals as goal

pub returns-in_default : goal.returns-in_default
returns-in_default c os are =
    copy_no_target c.args.instance c.args.to c.args.from c.args.entries.now.items os are
    (nowhere c.args.instance c.args.to c.args.entries.now.items c.as_slice.result.now os are c.in_default.ensures c.as_slice.ensures.value)

pub returns-in_default-place_of : goal.returns-in_default-place_of
returns-in_default-place_of c os are =
    let o = slot_found c.args.instance c.args.to c.args.entries.now.items c.as_slice.result.now os c.in-Some.target are c.in-Some.ensures c.as_slice.ensures.value in
    copy_no_source c.args.instance c.args.to c.args.from c.args.entries.now.items os o.0 are o.1
    (nowhere c.args.instance c.args.from c.args.entries.now.items c.as_slice-2.result.now os are c.in_default-place_of.ensures c.as_slice-2.ensures.value)

pub returns-then-target-source : goal.returns-then-target-source
returns-then-target-source c os are =
    let at_to : position (has_number c.args.instance c.args.to) c.args.entries.now.items ≡ Some c.in-Some.target =
    sym (c.in-Some.ensures ∙ ap (position (has_number c.args.instance c.args.to)) c.as_slice.ensures.value) in
    let at_from : position (has_number c.args.instance c.args.from) c.args.entries.now.items ≡ Some c.in-Some.target =
    sym (ap Some c.if-target-source.true ∙ c.in-Some-place_of.ensures ∙ ap (position (has_number c.args.instance c.args.from)) c.as_slice-2.ensures.value) in
    with_told AreOperations _ _ _ _ c.done.ensures
    (copy_itself c.args.instance c.args.to c.args.from c.args.entries.now.items os c.in-Some.target are at_to at_from)
