use Rattle.race.proofs.LineLemmas.{turns_none, turns_one_more}
use Rattle.race.proofs.lines.make_turns.Goals as goal

pub loop-init : goal.loop-init
loop-init g c = record { of = c.requires.of; made = turns_none c.args.instance c.args.pass.now }

pub loop-preserved : goal.loop-preserved
loop-preserved g c = record {
  of = c.turn.ensures.of;
  made = turns_one_more c.args.instance c.loop.counter c.args.pass.now c.loop.pass c.turn.new.pass c.loop.invariant.made c.in_ok-turn.ensures.ok;
}
