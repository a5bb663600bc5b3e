use Rattle.alone.proofs.ValidMachines.{start_valid, step_valid}
use Rattle.alone.proofs.validity.machines_stay_valid.Goals as goal

pub returns-clause-start : goal.returns-clause-start
returns-clause-start g c = λ host index seed store. start_valid host index seed store

pub returns-clause-step : goal.returns-clause-step
returns-clause-step g c = λ m event valid. step_valid g.A.Application.behaviour m event valid
