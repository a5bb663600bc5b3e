use Rattle.std.proofs.Common.{refl, rules, true, false}
use Rattle.epoch.proofs.AloneLemmas.{alone_blocks, alone_none}
use Rattle.epoch.proofs.CallLemmas.{run_failed, run_none, run_once}
use Rattle.epoch.proofs.PastLemmas.{itself, once}
use Rattle.epoch.proofs.find.raise.Goals as goal

pub returns-in_err-_raised-clause-past : goal.returns-in_err-_raised-clause-past
returns-in_err-_raised-clause-past g c h = once _ _ (c.in_err-_raised.ensures.honest h).1

pub returns-then-counter-header-clause-past : goal.returns-then-counter-header-clause-past
returns-then-counter-header-clause-past g c h = once _ _ (c.in_ok-_raised.ensures.honest h).1

pub returns-clause-past : goal.returns-clause-past
returns-clause-past g c h = itself _

pub returns-then-counter-header-clause-counter : goal.returns-then-counter-header-clause-counter
returns-then-counter-header-clause-counter g c = search rules

pub returns-in_err-_raised-clause-calls : goal.returns-in_err-_raised-clause-calls
returns-in_err-_raised-clause-calls g c = run_failed c.from_residual.result _ _ (search rules) (run_once false _ _ c.in_err-_raised.ensures.call)

pub returns-in_err-_raised-clause-cause : goal.returns-in_err-_raised-clause-cause
returns-in_err-_raised-clause-cause g c failed = c.in_err-_raised.ensures.call.cause refl

pub returns-then-counter-header-clause-calls : goal.returns-then-counter-header-clause-calls
returns-then-counter-header-clause-calls g c = run_once true _ _ c.in_ok-_raised.ensures.call

pub returns-clause-calls : goal.returns-clause-calls
returns-clause-calls g c = run_none _

pub returns-in_err-_raised-clause-alone : goal.returns-in_err-_raised-clause-alone
returns-in_err-_raised-clause-alone g c h =
    let told = c.in_err-_raised.ensures.honest h in
    alone_blocks _ _ _ (g.met.B.Board.consistent c.args.board.now h) told.1 told.2.blocks

pub returns-then-counter-header-clause-alone : goal.returns-then-counter-header-clause-alone
returns-then-counter-header-clause-alone g c h =
    let told = c.in_ok-_raised.ensures.honest h in
    alone_blocks _ _ _ (g.met.B.Board.consistent c.args.board.now h) told.1 told.2.blocks

pub returns-clause-alone : goal.returns-clause-alone
returns-clause-alone g c h = alone_none _ _ (g.met.B.Board.consistent c.args.board.now h)
