use Rattle.std.proofs.Common.{rules}
use Rattle.transient_obj.proofs.transient.Transient.populate.Goals as goal

pub returns-then-not-size_fits-clause-answer : goal.returns-then-not-size_fits-clause-answer
returns-then-not-size_fits-clause-answer c = search rules

pub returns-clause-answer : goal.returns-clause-answer
returns-clause-answer c = search rules

pub invariant_of-self : goal.invariant_of-self
invariant_of-self c = search rules
