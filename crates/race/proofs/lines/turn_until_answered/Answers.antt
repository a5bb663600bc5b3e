use Rattle.std.proofs.Common.{◌∙◌, sym}
use Rattle.race.proofs.GoLemmas.{awaiting_first, awaiting_on, awaiting_tried, awaits_on}
use Rattle.race.proofs.lines.turn_until_answered.Goals as goal

pub loop-init : goal.loop-init
loop-init g c = record { of = c.requires.of; awaiting = awaiting_first c.args.op c.args.instance c.args.pass.now }

pub returns-then-branch-clause-turns : goal.returns-then-branch-clause-turns
returns-then-branch-clause-turns g c =
    awaits_on c.args.op c.args.instance c.args.pass.now c.loop.pass c.is_answered.new.pass c.loop.invariant.awaiting.awaits c.is_answered.ensures.goes

pub loop-preserved : goal.loop-preserved
loop-preserved g c =
    let looked = awaiting_on c.args.op c.args.instance c.args.pass.now c.loop.pass c.is_answered.new.pass c.loop.invariant.awaiting c.is_answered.ensures.goes in
    record {
      of = c.try_turn.ensures.of;
      awaiting = awaiting_tried c.args.op c.args.instance c.in_ok-try_turn.field-0 c.args.pass.now c.is_answered.new.pass c.try_turn.new.pass looked
          (sym c.in_ok-is_answered.ensures.ok ∙ c.if-branch.false) c.in_ok-try_turn.ensures.ok;
    }

pub returns-in_err-try_turn-clause-turns : goal.returns-in_err-try_turn-clause-turns
returns-in_err-try_turn-clause-turns g c =
    let looked = awaits_on c.args.op c.args.instance c.args.pass.now c.loop.pass c.is_answered.new.pass c.loop.invariant.awaiting.awaits c.is_answered.ensures.goes in
    awaits_on c.args.op c.args.instance c.args.pass.now c.is_answered.new.pass c.try_turn.new.pass looked c.in_err-try_turn.ensures.same
