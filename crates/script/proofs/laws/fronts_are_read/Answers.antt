use Rattle.script.proofs.Fronts.{front_reads}
use Rattle.script.proofs.laws.fronts_are_read.Goals as goal

pub returns : goal.returns
returns g c = front_reads
