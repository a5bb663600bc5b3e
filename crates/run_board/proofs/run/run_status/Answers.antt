use Rattle.std.proofs.Common.{ap, sym}
use Rattle.run_board.specs.Runs.{ended_as}
use Rattle.run_board.proofs.run.run_status.Goals as goal

pub returns-in-Ok : goal.returns-in-Ok
returns-in-Ok c = sym (ap ended_as c.in-Ok.is)
