use contract.Lifetimes.{Lfts}
use denote.Param.{param}
use denote.Param.Send.{IsSend, IsSync, sendable, param_send}
use Rattle.std.proofs.Crossing.{crosses}
use Rattle.shared_tee.proofs.Crosses.{Pass-send, SharedTeeOver-sync}
use Rattle.test_shared_tee.specs.contracts.held.Latch as Latch
use Rattle.test_shared_tee.proofs.held.beside.Given.{Over}
use Rattle.test_shared_tee.proofs.held.beside.Lts as lts
use Rattle.test_shared_tee.proofs.held.beside.Goals as goal

pub join-requires-after_bounds : goal.join-requires-after_bounds
join-requires-after_bounds g c κs within = (
  (search sendable, search sendable, search sendable, c.requires.vault),
  (search sendable, search sendable, search sendable, c.requires.keep),
)

Latch-field-sync : IsSync Latch.the_field.row
Latch-field-sync = search (crosses, sendable) depth 20

-- threads may share a latch
Latch-sync : IsSync Latch.the_row
Latch-sync = search (Latch-field-sync, sendable) depth 20

-- what the first of two threads is given may cross to it
first_sent : (g : Over) (κs : Lfts 12) → IsSync (param 0 g.row.R) → IsSend (param 1 g.row.V) → IsSend (param 2 g.row.A)
    → IsSend (lts.arg-0-1 g.row.R g.row.V g.row.A g.R.laws g.V.laws g.A.laws g.R.Threads g.R.Threads-dict g.R.Abort g.R.Abort-dict
    g.V.Volume g.V.Volume-dict g.A.Application g.A.Application-dict g.A.Destruct-dict κs)
first_sent g κs r v a = search (Latch-sync, SharedTeeOver-sync, Pass-send, sendable) depth 40

pub join-requires-send-F : goal.join-requires-send-F
join-requires-send-F g c κs within =
    param_send 1
    (lts.arg-0-1 g.row.R g.row.V g.row.A g.R.laws g.V.laws g.A.laws g.R.Threads g.R.Threads-dict g.R.Abort g.R.Abort-dict
    g.V.Volume g.V.Volume-dict g.A.Application g.A.Application-dict g.A.Destruct-dict κs)
    (first_sent g κs (search sendable) (search sendable) (search sendable))
