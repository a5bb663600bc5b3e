use Rattle.boards.proofs.Landings.{LandedBelow}
use Rattle.boards.proofs.disk.Disk.land.Given as goal

abbrev pub invariant-loop-place : goal.invariant-loop-place
invariant-loop-place l = LandedBelow l.place l.digits l.fn.self l.self
