use Rattle.std.proofs.Common.{◌≤◌, take}
use Rattle.race.specs.Clients.{AllKnowMore, AllServe}
use Rattle.race.proofs.client.run_lines.Given as goal

-- the first lines are made
abbrev pub invariant-loop-line : goal.invariant-loop-line
invariant-loop-line g l = record {
  number : l.number ≤ l.line-index;
  known : AllKnowMore l.fn.passes l.passes;
  serve : AllServe g.V.Volume.keeper g.A.Application.behaviour l.shared l.client (take l.line-index l.lines) l.passes;
}
