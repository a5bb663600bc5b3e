use Rattle.shared_mem.proofs.Deliveries.{no_reference_given}
use Rattle.shared_mem.proofs.laws.references_are_memory.Goals as goal

pub returns : goal.returns
returns c = no_reference_given
