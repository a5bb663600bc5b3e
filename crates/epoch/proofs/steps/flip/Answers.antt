use Rattle.std.proofs.Common.{◌≢◌, ◌∙◌, ℕ, true, false}
use Rattle.epoch.proofs.AloneLemmas.{alone_blocks, alone_more, alone_synced, alone_wrote}
use Rattle.epoch.proofs.CallLemmas.{call_more, run_once, run_stops}
use Rattle.epoch.proofs.PastLemmas.{once, followed}
use Rattle.epoch.proofs.RunLemmas.{flip_wrote, flip_before, flip_advanced, flip_answers, opened_answers, flip_crash, over_sync}
use Rattle.epoch.specs.Gates.{gate_at}
use Rattle.epoch.proofs.steps.flip.Goals as goal

pub returns-in_err-write-clause-run : goal.returns-in_err-write-clause-run
returns-in_err-write-clause-run g c h n rests =
    let w = c.in_err-write.ensures.honest h in
    flip_before c.args.slot n _ _ (flip_wrote c.args.slot n _ _ _ _ rests c.gate_block.ensures w.1 w.2)

pub returns-in_err-write-clause-crash : goal.returns-in_err-write-clause-crash
returns-in_err-write-clause-crash g c h knows n header laid =
    flip_crash knows n c.args.slot _ _ c.requires.slot header laid (returns-in_err-write-clause-run g c h n laid.rests)

pub returns-in_err-sync-clause-run : goal.returns-in_err-sync-clause-run
returns-in_err-sync-clause-run g c h n rests =
    let w = c.in_ok-write.ensures.honest h in
    let s = c.in_err-sync.ensures.honest w.0 in
    flip_before c.args.slot n _ _ (over_sync _ _ n n _ _ _ (flip_wrote c.args.slot n _ _ _ _ rests c.gate_block.ensures w.1 w.2) s.1 _ s.2)

pub returns-in_err-sync-clause-crash : goal.returns-in_err-sync-clause-crash
returns-in_err-sync-clause-crash g c h knows n header laid =
    flip_crash knows n c.args.slot _ _ c.requires.slot header laid (returns-in_err-sync-clause-run g c h n laid.rests)

pub returns-clause-flipped : goal.returns-clause-flipped
returns-clause-flipped g c h =
    let w = c.in_ok-write.ensures.honest h in
    let s = c.in_ok-sync.ensures.honest w.0 in
    let a = c.advance.ensures.honest s.0 in
    flip_answers c.args.slot _ _ _ _ _ c.advance.result c.gate_block.ensures w.2 s.2 a.2

pub returns-clause-run : goal.returns-clause-run
returns-clause-run g c h n rests =
    let w = c.in_ok-write.ensures.honest h in
    let s = c.in_ok-sync.ensures.honest w.0 in
    let a = c.advance.ensures.honest s.0 in
    flip_advanced c.args.slot n _ _ _ _ _ c.advance.result rests c.gate_block.ensures w.1 w.2 s.1 s.2 a.1 a.2

pub returns-clause-crash : goal.returns-clause-crash
returns-clause-crash g c h knows n header laid =
    flip_crash knows n c.args.slot _ _ c.requires.slot header laid (returns-clause-run g c h n laid.rests)

pub returns-clause-opened : goal.returns-clause-opened
returns-clause-opened g c h = opened_answers _ c.args.slot _ _ c.advance.result c.requires.slot (returns-clause-flipped g c h)

pub returns-in_err-write-clause-calls : goal.returns-in_err-write-clause-calls
returns-in_err-write-clause-calls g c = run_stops c.from_residual.result _ _ c.from_residual.ensures.0 (run_once false _ _ c.in_err-write.ensures.call)

pub returns-in_err-sync-clause-calls : goal.returns-in_err-sync-clause-calls
returns-in_err-sync-clause-calls g c =
    run_stops c.from_residual-in_err-sync.result _ _ c.from_residual-in_err-sync.ensures.0 (call_more false _ _ _ (run_once true _ _ c.in_ok-write.ensures.call) c.in_err-sync.ensures.call)

pub returns-clause-calls : goal.returns-clause-calls
returns-clause-calls g c = call_more _ _ _ _ (call_more true _ _ _ (run_once true _ _ c.in_ok-write.ensures.call) c.in_ok-sync.ensures.call) c.advance.ensures.call

pub returns-in_err-write-clause-honest : goal.returns-in_err-write-clause-honest
returns-in_err-write-clause-honest g c h =
    let w = c.in_err-write.ensures.honest h in (
      w.0,
      record {
        past = once _ _ w.1;
        alone = alone_wrote (λ (k : ℕ). k ≢ gate_at c.args.slot) _ _ _ _ _ (g.met.B.Board.consistent c.args.board.now h) w.1 (λ k ne e. ne (e ∙ c.gate_block.ensures)) w.2;
      },
    )

pub returns-in_err-sync-clause-honest : goal.returns-in_err-sync-clause-honest
returns-in_err-sync-clause-honest g c h =
    let P = λ (k : ℕ). k ≢ gate_at c.args.slot in
    let w = c.in_ok-write.ensures.honest h in
    let s = c.in_err-sync.ensures.honest w.0 in (
      s.0,
      record {
        past = followed _ _ _ (once _ _ w.1) (once _ _ s.1);
        alone = alone_more P _ _ _
            (alone_wrote P _ _ _ _ _ (g.met.B.Board.consistent c.args.board.now h) w.1 (λ k ne e. ne (e ∙ c.gate_block.ensures)) w.2)
            (alone_synced P _ _ _ (g.met.B.Board.consistent c.write.new.self w.0) s.1 s.2);
      },
    )

pub returns-clause-honest : goal.returns-clause-honest
returns-clause-honest g c h =
    let P = λ (k : ℕ). k ≢ gate_at c.args.slot in
    let w = c.in_ok-write.ensures.honest h in
    let s = c.in_ok-sync.ensures.honest w.0 in
    let a = c.advance.ensures.honest s.0 in (
      a.0,
      record {
        past = followed _ _ _ (once _ _ w.1) (followed _ _ _ (once _ _ s.1) (once _ _ a.1));
        alone = alone_more P _ _ _
            (alone_more P _ _ _
            (alone_wrote P _ _ _ _ _ (g.met.B.Board.consistent c.args.board.now h) w.1 (λ k ne e. ne (e ∙ c.gate_block.ensures)) w.2)
            (alone_synced P _ _ _ (g.met.B.Board.consistent c.write.new.self w.0) s.1 s.2))
            (alone_blocks P _ _ (g.met.B.Board.consistent c.sync.new.self s.0) a.1 a.2.blocks);
      },
    )
