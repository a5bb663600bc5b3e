use Rattle.std.proofs.Common.{rules}
use Rattle.script.proofs.script.read_last.Goals as goal

pub returns-in-Ok : goal.returns-in-Ok
returns-in-Ok g c = search rules
