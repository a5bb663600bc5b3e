use Rattle.alone.proofs.WithoutStore.{reaching_needs, turned_over}
use Rattle.alone.proofs.laws.turns_without_the_store.Goals as goal

pub returns-clause-alike : goal.returns-clause-alike
returns-clause-alike g c = λ m i store. turned_over store g.A.Application.behaviour m i

pub returns-clause-reaches : goal.returns-clause-reaches
returns-clause-reaches g c = λ m i. reaching_needs m i
