use Rattle.std.proofs.Common.{refl, true, false}
use Rattle.epoch.proofs.AloneLemmas.{alone_blocks}
use Rattle.epoch.proofs.CallLemmas.{run_once}
use Rattle.epoch.proofs.KeepLemmas.{exhausted}
use Rattle.epoch.proofs.PastLemmas.{once}
use Rattle.epoch.proofs.last.exhaust.Goals as goal

pub returns-in-Err-clause-failed : goal.returns-in-Err-clause-failed
returns-in-Err-clause-failed g c h f root framed is =
    let told = c.in-Err.ensures.honest h in
    exhausted f framed _ _ root _ is c.in-Err.ensures.call.key told.1.time told.2

pub returns-in-Ok-clause-calls : goal.returns-in-Ok-clause-calls
returns-in-Ok-clause-calls g c = run_once true _ _ c.in-Ok.ensures.call

pub returns-in-Err-clause-calls : goal.returns-in-Err-clause-calls
returns-in-Err-clause-calls g c = run_once false _ _ c.in-Err.ensures.call

pub returns-in-Err-clause-cause : goal.returns-in-Err-clause-cause
returns-in-Err-clause-cause g c failed = c.in-Err.ensures.call.cause refl

pub returns-in-Ok-clause-called : goal.returns-in-Ok-clause-called
returns-in-Ok-clause-called g c = c.in-Ok.ensures.call.fuse

pub returns-in-Err-clause-called : goal.returns-in-Err-clause-called
returns-in-Err-clause-called g c = c.in-Err.ensures.call.fuse

pub returns-in-Ok-clause-honest : goal.returns-in-Ok-clause-honest
returns-in-Ok-clause-honest g c h =
    let told = c.in-Ok.ensures.honest h in
    (told.0, record { past = once _ _ told.1; alone = alone_blocks _ _ _ (g.met.B.Board.consistent c.args.board.now h) told.1 told.2.blocks })

pub returns-in-Err-clause-honest : goal.returns-in-Err-clause-honest
returns-in-Err-clause-honest g c h =
    let told = c.in-Err.ensures.honest h in
    (told.0, record { past = once _ _ told.1; alone = alone_blocks _ _ _ (g.met.B.Board.consistent c.args.board.now h) told.1 told.2.blocks })
