use Rattle.std.proofs.Common.{rules}
use Rattle.boards.proofs.schedule.Schedule.next.Goals as goal

pub returns-then-eq-clause-fate : goal.returns-then-eq-clause-fate
returns-then-eq-clause-fate c = search rules

pub returns-clause-fate : goal.returns-clause-fate
returns-clause-fate c = search rules
