use Rattle.shared_mem.proofs.Deliveries.{takes_both, takes_output}
use Rattle.shared_mem.proofs.laws.delivery_laws.Goals as goal

pub returns-clause-output : goal.returns-clause-output
returns-clause-output c = takes_output

pub returns-clause-both : goal.returns-clause-both
returns-clause-both c = takes_both
