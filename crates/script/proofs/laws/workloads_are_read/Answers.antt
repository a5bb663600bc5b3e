use Rattle.script.proofs.WorkloadTexts.{workload_reads}
use Rattle.script.proofs.laws.workloads_are_read.Goals as goal

pub returns : goal.returns
returns g c = λ hosts number fit. workload_reads hosts fit number
