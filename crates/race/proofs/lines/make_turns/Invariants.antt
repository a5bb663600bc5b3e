use Rattle.shared_tee.specs.Passes.{IsPassOf}
use Rattle.race.proofs.LineLemmas.{MadeTurns}
use Rattle.race.proofs.lines.make_turns.Given as goal

-- the turns so far
abbrev pub invariant-loop : goal.invariant-loop
invariant-loop g l = record {
  of : IsPassOf l.shared l.pass;
  made : MadeTurns l.instance l.counter l.fn.pass l.pass;
}
