use Rattle.std.proofs.Common.{rules, ◌≡◌, ◌*◌, ◌/◌, length, subst}
use Rattle.race.specs.Outcomes.{IsOutcome}
use Rattle.race.proofs.WorkersLemmas.{all_known, all_may_run, are_passes, eights, err_clause, full_clause, have_all, in_order, none_made, ok_clause}
use Rattle.race.proofs.workers.race_all.Goals as goal

pub returns-in_default-clause-err : goal.returns-in_default-clause-err
returns-in_default-clause-err g c = none_made g.V.Volume.keeper g.A.Application.behaviour c.args.shared.now c.args.lines.now c.args.passes.items c.requires.passes c.requires.none

pub deal-requires-clause-order : goal.deal-requires-clause-order
deal-requires-clause-order g c = in_order g.V.Volume.keeper g.A.Application.behaviour c.args.shared.now c.args.lines.now c.args.passes.items c.requires.passes

pub run_all-workers-requires-clause-ready : goal.run_all-workers-requires-clause-ready
run_all-workers-requires-clause-ready g c κs within =
    let count = c.len-apps.result / 8 in
    let size : length c.args.passes.items ≡ 8 * count = eights (length c.args.passes.items) c.len-apps.result (length c.args.shared.now.cells) c.requires.passes.all (search rules) in
    all_may_run g.V.Volume.keeper g.A.Application.behaviour c.args.shared.now c.args.lines.now c.args.passes.items c.requires.passes count c.deal.new.workers.items (c.deal.ensures.dealt count size)
    c.requires.named c.requires.none

pub gather-requires-clause-all : goal.gather-requires-clause-all
gather-requires-clause-all g c =
    let count = c.len-apps.result / 8 in
    have_all g.V.Volume.keeper g.A.Application.behaviour c.args.shared.now c.args.lines.now count c.args.passes.items c.deal.new.workers.items
    (c.deal.ensures.dealt count (eights (length c.args.passes.items) c.len-apps.result (length c.args.shared.now.cells) c.requires.passes.all (search rules)))
    c.run_all-workers.result.items c.run_all-workers.ensures.run

pub returns-clause-back : goal.returns-clause-back
returns-clause-back g c =
    let count = c.len-apps.result / 8 in
    are_passes g.V.Volume.keeper g.A.Application.behaviour c.args.shared.now c.args.lines.now count c.args.passes.items c.deal.new.workers.items
    (c.deal.ensures.dealt count (eights (length c.args.passes.items) c.len-apps.result (length c.args.shared.now.cells) c.requires.passes.all (search rules)))
    c.run_all-workers.result.items c.run_all-workers.ensures.run c.gather.new.passes.items c.gather.ensures c.requires.passes.all

pub returns-clause-known : goal.returns-clause-known
returns-clause-known g c =
    let count = c.len-apps.result / 8 in
    all_known g.V.Volume.keeper g.A.Application.behaviour c.args.shared.now c.args.lines.now count c.args.passes.items c.deal.new.workers.items
    (c.deal.ensures.dealt count (eights (length c.args.passes.items) c.len-apps.result (length c.args.shared.now.cells) c.requires.passes.all (search rules)))
    c.run_all-workers.result.items c.run_all-workers.ensures.run c.gather.new.passes.items c.gather.ensures

pub returns-clause-ok : goal.returns-clause-ok
returns-clause-ok g c =
    let count = c.len-apps.result / 8 in
    ok_clause g.V.Volume.keeper g.A.Application.behaviour c.args.shared.now c.args.lines.now count c.args.passes.items c.deal.new.workers.items
    (c.deal.ensures.dealt count (eights (length c.args.passes.items) c.len-apps.result (length c.args.shared.now.cells) c.requires.passes.all (search rules)))
    c.run_all-workers.result.items c.run_all-workers.ensures.run c.gather.new.passes.items c.gather.ensures c.outcome-ended.result
    (subst (λ ws. IsOutcome (length ws) ws c.outcome-ended.result) c.as_slice.ensures.value c.outcome-ended.ensures)

pub returns-clause-err : goal.returns-clause-err
returns-clause-err g c =
    let count = c.len-apps.result / 8 in
    err_clause g.V.Volume.keeper g.A.Application.behaviour c.args.shared.now c.args.lines.now count c.args.passes.items c.deal.new.workers.items
    (c.deal.ensures.dealt count (eights (length c.args.passes.items) c.len-apps.result (length c.args.shared.now.cells) c.requires.passes.all (search rules)))
    c.run_all-workers.result.items c.run_all-workers.ensures.run c.gather.new.passes.items c.gather.ensures c.outcome-ended.result
    (subst (λ ws. IsOutcome (length ws) ws c.outcome-ended.result) c.as_slice.ensures.value c.outcome-ended.ensures)

pub returns-clause-full : goal.returns-clause-full
returns-clause-full g c =
    let count = c.len-apps.result / 8 in
    full_clause g.V.Volume.keeper g.A.Application.behaviour c.args.shared.now c.args.lines.now count c.args.passes.items c.deal.new.workers.items
    (c.deal.ensures.dealt count (eights (length c.args.passes.items) c.len-apps.result (length c.args.shared.now.cells) c.requires.passes.all (search rules)))
    c.run_all-workers.result.items c.run_all-workers.ensures.run c.gather.new.passes.items c.gather.ensures c.outcome-ended.result
    (subst (λ ws. IsOutcome (length ws) ws c.outcome-ended.result) c.as_slice.ensures.value c.outcome-ended.ensures)
