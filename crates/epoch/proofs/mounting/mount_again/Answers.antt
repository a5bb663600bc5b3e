use Rattle.std.proofs.Common.{◌≡◌, ◌∙◌, ℕ, List, Err, refl, sym, ap, arith, rules, true, false}
use Rattle.epoch.specs.Opening.{no_failure}
use Rattle.epoch.specs.declared.answer.OpenAnswer.TheVariants.{Failed, NoMemory}
use Rattle.epoch.proofs.AloneLemmas.{alone_more, alone_synced}
use Rattle.epoch.proofs.CallLemmas.{run_failed, run_more, run_once}
use Rattle.epoch.proofs.AdmitLemmas.{ruled_so}
use Rattle.epoch.proofs.MountLemmas.{after_sync, again_failed, again_found, failed_ok, leaves_again, rests_found, stopped}
use Rattle.epoch.proofs.SettledLemmas.{settled_on, settled_sync}
use Rattle.epoch.proofs.PastLemmas.{followed, once}
use Rattle.epoch.proofs.mounting.mount_again.Goals as goal

pub returns-in_err-sync-clause-again : goal.returns-in_err-sync-clause-again
returns-in_err-sync-clause-again g c h f framed same large sound =
    stopped (search rules) (again_failed f (g.B.Board.view c.args.board.now) (g.met.B.Board.consistent c.args.board.now h) sound (g.B.Board.view c.sync.new.self))

pub returns-in_err-sync-clause-leaves : goal.returns-in_err-sync-clause-leaves
returns-in_err-sync-clause-leaves g c h f same =
    let step = c.in_err-sync.ensures.honest h in
    after_sync f (g.B.Board.view c.args.board.now) (g.met.B.Board.consistent c.args.board.now h) false (g.B.Board.view c.sync.new.self) step.1 step.2

pub returns-clause-leaves : goal.returns-clause-leaves
returns-clause-leaves g c h f same =
    let step = c.in_ok-sync.ensures.honest h in
    leaves_again f (g.B.Board.view c.args.board.now) (g.met.B.Board.consistent c.args.board.now h) (g.B.Board.view c.sync.new.self) (g.B.Board.view c.mount.new.board)
    c.in_ok-sync.ensures.call.key step.1 step.2
    (c.mount.ensures.leaves step.0 (λ k. step.2.settled refl k) f same)

pub returns-clause-exact : goal.returns-clause-exact
returns-clause-exact g c h =
    let step = c.in_ok-sync.ensures.honest h in
    let told = c.mount.ensures.exact step.0 in
    let call = c.in_ok-sync.ensures.call in (
      told.0,
      record {
        least = omega (arith, told.1.least, step.2.counter);
        greatest = omega (arith, told.1.greatest, step.2.counter, step.2.slack);
        fits = told.1.fits;
      },
      λ f same.
          ruled_so f (g.B.Board.view c.args.board.now) (g.B.Board.view c.sync.new.self) call.size call.key _ _ told.0 told.0 step.2.reads refl c.mount.result (told.2 f same),
    )

pub returns-clause-again : goal.returns-clause-again
returns-clause-again g c h f framed same large sound =
    let step = c.in_ok-sync.ensures.honest h in
    let call = c.in_ok-sync.ensures.call in
    again_found f (g.B.Board.view c.args.board.now) (g.met.B.Board.consistent c.args.board.now h) sound (g.B.Board.view c.sync.new.self) (g.B.Board.view c.mount.new.board)
    c.mount.result call.key step.2
    (λ held holding. c.mount.ensures.holds step.0 f held framed same (omega (arith, large, call.size)) holding)

pub returns-in_err-sync-clause-settled : goal.returns-in_err-sync-clause-settled
returns-in_err-sync-clause-settled g c h =
    settled_sync _ (g.B.Board.view c.args.board.now).state (g.B.Board.view c.sync.new.self).state (c.in_err-sync.ensures.honest h).2

pub returns-clause-settled : goal.returns-clause-settled
returns-clause-settled g c h =
    let step = c.in_ok-sync.ensures.honest h in
    let v = (g.B.Board.view c.args.board.now).state in
    let mid = (g.B.Board.view c.sync.new.self).state in
    settled_on v mid (g.B.Board.view c.mount.new.board).state (settled_sync _ v mid step.2) (c.mount.ensures.settled step.0)

pub returns-in_err-sync-clause-past : goal.returns-in_err-sync-clause-past
returns-in_err-sync-clause-past g c h = once _ _ (c.in_err-sync.ensures.honest h).1

pub returns-clause-past : goal.returns-clause-past
returns-clause-past g c h =
    let step = c.in_ok-sync.ensures.honest h in
    followed _ _ _ (once _ _ step.1) (c.mount.ensures.honest step.0).1.past

pub returns-in_err-sync-clause-alone : goal.returns-in_err-sync-clause-alone
returns-in_err-sync-clause-alone g c h =
    let step = c.in_err-sync.ensures.honest h in
    alone_synced (λ (k : ℕ). Unit {0}) false _ _ (g.met.B.Board.consistent c.args.board.now h) step.1 step.2

pub returns-clause-alone : goal.returns-clause-alone
returns-clause-alone g c h =
    let step = c.in_ok-sync.ensures.honest h in
    alone_more (λ (k : ℕ). Unit {0}) _ _ _ (alone_synced (λ (k : ℕ). Unit {0}) true _ _ (g.met.B.Board.consistent c.args.board.now h) step.1 step.2)
    (c.mount.ensures.honest step.0).1.alone

pub returns-in_err-sync-clause-rests : goal.returns-in_err-sync-clause-rests
returns-in_err-sync-clause-rests g c h = failed_ok c.from_residual.result _ (search rules)

pub returns-clause-rests : goal.returns-clause-rests
returns-clause-rests g c h =
    let step = c.in_ok-sync.ensures.honest h in
    let found = (c.mount.ensures.honest step.0).1 in
    let mid = (g.B.Board.view c.sync.new.self).state in
    rests_found mid (g.B.Board.view c.mount.new.board).state (λ k. ap (λ (f : ℕ → List ℕ). f k) step.2.reads ∙ sym (step.2.durable refl k)) (λ k. step.2.settled refl k)
    found.blocks c.mount.result found.counter

pub returns-in_err-sync-clause-search : goal.returns-in_err-sync-clause-search
returns-in_err-sync-clause-search g c =
    let is : c.from_residual.result ≡ Err Failed = search rules in
    record {
      calls = run_failed c.from_residual.result _ _ is (run_once false _ _ c.in_err-sync.ensures.call);
      cause = λ failed. c.in_err-sync.ensures.call.cause refl;
      memory = λ none. let e : Err Failed ≡ Err NoMemory = sym is ∙ none in cc;
      accepted = failed_ok c.from_residual.result _ is;
      writes = c.in_err-sync.ensures.writes;
    }

pub returns-clause-search : goal.returns-clause-search
returns-clause-search g c =
    let calls = run_more _ _ _ _ (run_once true _ _ c.in_ok-sync.ensures.call) c.mount.ensures.search.calls in
    record {
      calls = calls;
      cause = λ failed. calls.cause (ap no_failure failed);
      memory = c.mount.ensures.search.memory;
      accepted = c.mount.ensures.search.accepted;
      writes = c.mount.ensures.search.writes ∙ c.in_ok-sync.ensures.writes;
    }

pub returns-clause-honest : goal.returns-clause-honest
returns-clause-honest g c h = (c.mount.ensures.honest (c.in_ok-sync.ensures.honest h).0).0

pub returns-clause-reads : goal.returns-clause-reads
returns-clause-reads g c h =
    let step = c.in_ok-sync.ensures.honest h in
    (c.mount.ensures.honest step.0).1.blocks.reads ∙ step.2.reads
