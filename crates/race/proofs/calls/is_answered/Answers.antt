use Rattle.std.proofs.Common.{[]}
use Rattle.race.proofs.GoLemmas.{goes_on, goes_others, knows_by, unfound_goes, unfound_names, waits_on}
use Rattle.race.proofs.calls.is_answered.Goals as goal

pub returns-in-Ok-clause-goes : goal.returns-in-Ok-clause-goes
returns-in-Ok-clause-goes g c =
    let p = c.args.pass.now in
    let q = c.loop.pass in
    let r = c.answer_of.new.pass in
    goes_on p q r [] c.loop.invariant.goes (goes_others q r (knows_by 1 q r c.answer_of.ensures.goes) c.in-Ok.ensures.same.others)

pub pause-requires-clause-cell : goal.pause-requires-clause-cell
pause-requires-clause-cell g c =
    let q = c.loop.pass in
    let r = c.answer_of.new.pass in
    unfound_names c.in-Err.why q r (knows_by 1 q r c.answer_of.ensures.goes) c.in-Err.ensures.err

pub loop-preserved : goal.loop-preserved
loop-preserved g c =
    let p = c.args.pass.now in
    let q = c.loop.pass in
    let r = c.answer_of.new.pass in
    record {
      of = c.pause.ensures.of;
      goes = waits_on p q r c.pause.new.pass c.loop.invariant.goes
          (unfound_goes c.in-Err.why q r (knows_by 1 q r c.answer_of.ensures.goes) c.in-Err.ensures.err) c.pause.ensures.goes;
    }

pub returns-in_err-pause-in-Err-clause-goes : goal.returns-in_err-pause-in-Err-clause-goes
returns-in_err-pause-in-Err-clause-goes g c =
    let p = c.args.pass.now in
    let q = c.loop.pass in
    let r = c.answer_of.new.pass in
    waits_on p q r c.pause.new.pass c.loop.invariant.goes
    (unfound_goes c.in-Err.why q r (knows_by 1 q r c.answer_of.ensures.goes) c.in-Err.ensures.err) c.pause.ensures.goes
