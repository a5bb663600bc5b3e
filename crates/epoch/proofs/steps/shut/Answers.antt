use Rattle.epoch.proofs.CallLemmas.{call_more, run_once, run_stops}
use Rattle.epoch.proofs.PastLemmas.{once, followed}
use Rattle.std.proofs.Common.{◌≡◌, ◌∙◌, ℕ, List, true, false, sym, ap, rules}
use Rattle.epoch.specs.Steps.{shut_writes}
use Rattle.epoch.proofs.RunLemmas.{rest_starts, over_read, over_sync, over_write, shut_crash, shut_answers, zeros_answers, still_answers, shut_itself, gate_was}
use Rattle.epoch.proofs.steps.shut.Goals as goal

pub returns-in_err-read-clause-crash : goal.returns-in_err-read-clause-crash
returns-in_err-read-clause-crash g c h knows n rests other =
    let r = c.in_err-read.ensures.honest h in
    shut_crash knows n c.args.slot _ _ c.requires.slot other (over_read _ _ n n _ _ _ (rest_starts n _ rests (shut_writes c.args.slot (g.B.Board.view c.args.board.now).state.reads)) r.1 r.2)

pub returns-then-not-is_open-clause-crash : goal.returns-then-not-is_open-clause-crash
returns-then-not-is_open-clause-crash g c h knows n rests other =
    let r = c.in_ok-read.ensures.honest h in
    let s = c.sync.ensures.honest r.0 in
    shut_crash knows n c.args.slot _ _ c.requires.slot other (over_sync _ _ n n _ _ _
    (over_read _ _ n n _ _ _ (rest_starts n _ rests (shut_writes c.args.slot (g.B.Board.view c.args.board.now).state.reads)) r.1 r.2) s.1 _ s.2)

pub returns-in_err-write-clause-run : goal.returns-in_err-write-clause-run
returns-in_err-write-clause-run g c h open_at base low high first opens run =
    let r = c.in_ok-read.ensures.honest h in
    let w = c.in_err-write.ensures.honest r.0 in
    let told : c.is_open.result ≡ true = search rules in
    let was = gate_was c.gate_block.result _ (g.B.Board.view c.args.board.now).state.reads _ c.is_open.result true c.gate_block.ensures
    (c.in_ok-read.ensures.bytes (g.met.B.Board.honest_reads c.args.board.now h)) c.is_open.ensures told in
    over_write open_at base low high first _ _ (over_read open_at base low high first _ _ run r.1 r.2) w.1 _ _ _ (rw c.gate_block-2.ensures (opens was)) w.2

pub returns-in_err-write-clause-crash : goal.returns-in_err-write-clause-crash
returns-in_err-write-clause-crash g c h knows n rests other =
    shut_crash knows n c.args.slot _ _ c.requires.slot other (returns-in_err-write-clause-run g c h _ _ n n _
    (shut_itself c.args.slot (g.B.Board.view c.args.board.now).state.reads) (rest_starts n _ rests (shut_writes c.args.slot (g.B.Board.view c.args.board.now).state.reads)))

pub returns-clause-shut : goal.returns-clause-shut
returns-clause-shut g c h =
    let r = c.in_ok-read.ensures.honest h in
    let w = c.in_ok-write.ensures.honest r.0 in
    let s = c.sync-2.ensures.honest w.0 in
    shut_answers c.args.slot c.gate_block-2.result _ _ _ _ c.sync-2.result c.gate_block-2.ensures r.2 w.2 s.2

pub returns-then-not-is_open-clause-zeros : goal.returns-then-not-is_open-clause-zeros
returns-then-not-is_open-clause-zeros g c h =
    let r = c.in_ok-read.ensures.honest h in
    let s = c.sync.ensures.honest r.0 in
    let told : c.is_open.result ≡ false = search rules in
    let was = gate_was c.gate_block.result _ (g.B.Board.view c.args.board.now).state.reads _ c.is_open.result false c.gate_block.ensures
    (c.in_ok-read.ensures.bytes (g.met.B.Board.honest_reads c.args.board.now h)) c.is_open.ensures told in
    still_answers c.args.slot (g.B.Board.view c.args.board.now).state _ _ c.sync.result was r.2 s.2

pub returns-clause-zeros : goal.returns-clause-zeros
returns-clause-zeros g c h =
    let r = c.in_ok-read.ensures.honest h in
    let w = c.in_ok-write.ensures.honest r.0 in
    let s = c.sync-2.ensures.honest w.0 in
    let told : c.is_open.result ≡ true = search rules in
    let was = gate_was c.gate_block.result _ (g.B.Board.view c.args.board.now).state.reads _ c.is_open.result true c.gate_block.ensures
    (c.in_ok-read.ensures.bytes (g.met.B.Board.honest_reads c.args.board.now h)) c.is_open.ensures told in
    zeros_answers c.args.slot c.gate_block-2.result (g.B.Board.view c.args.board.now).state _ _ _ c.sync-2.result c.gate_block-2.ensures was w.2 s.2

pub returns-clause-run : goal.returns-clause-run
returns-clause-run g c h open_at base low high first opens run =
    let r = c.in_ok-read.ensures.honest h in
    let w = c.in_ok-write.ensures.honest r.0 in
    let s = c.sync-2.ensures.honest w.0 in
    let told : c.is_open.result ≡ true = search rules in
    let was = gate_was c.gate_block.result _ (g.B.Board.view c.args.board.now).state.reads _ c.is_open.result true c.gate_block.ensures
    (c.in_ok-read.ensures.bytes (g.met.B.Board.honest_reads c.args.board.now h)) c.is_open.ensures told in
    over_sync open_at base low high first _ _ (over_write open_at base low high first _ _ (over_read open_at base low high first _ _ run r.1 r.2) w.1 _ _ _
    (rw c.gate_block-2.ensures (opens was)) w.2) s.1 _ s.2

pub returns-clause-crash : goal.returns-clause-crash
returns-clause-crash g c h knows n rests other =
    shut_crash knows n c.args.slot _ _ c.requires.slot other (returns-clause-run g c h _ _ n n _ (shut_itself c.args.slot (g.B.Board.view c.args.board.now).state.reads)
    (rest_starts n _ rests (shut_writes c.args.slot (g.B.Board.view c.args.board.now).state.reads)))

pub returns-in_err-read-clause-calls : goal.returns-in_err-read-clause-calls
returns-in_err-read-clause-calls g c = run_stops c.from_residual.result _ _ c.from_residual.ensures.0 (run_once false _ _ c.in_err-read.ensures.call)

pub returns-then-not-is_open-clause-calls : goal.returns-then-not-is_open-clause-calls
returns-then-not-is_open-clause-calls g c = call_more _ _ _ _ (run_once true _ _ c.in_ok-read.ensures.call) c.sync.ensures.call

pub returns-in_err-write-clause-calls : goal.returns-in_err-write-clause-calls
returns-in_err-write-clause-calls g c =
    run_stops c.from_residual-in_err-write.result _ _ c.from_residual-in_err-write.ensures.0 (call_more false _ _ _ (run_once true _ _ c.in_ok-read.ensures.call) c.in_err-write.ensures.call)

pub returns-clause-calls : goal.returns-clause-calls
returns-clause-calls g c = call_more _ _ _ _ (call_more true _ _ _ (run_once true _ _ c.in_ok-read.ensures.call) c.in_ok-write.ensures.call) c.sync-2.ensures.call

pub returns-in_err-write-clause-unwritten : goal.returns-in_err-write-clause-unwritten
returns-in_err-write-clause-unwritten g c tells shut =
    let told : c.is_open.result ≡ true = search rules in
    let was = gate_was c.gate_block.result _ (g.B.Board.view c.args.board.now).state.reads _ c.is_open.result true c.gate_block.ensures
    (c.in_ok-read.ensures.bytes tells) c.is_open.ensures told in
    absurd (let e : true ≡ false = sym was ∙ shut in cc)

pub returns-clause-unwritten : goal.returns-clause-unwritten
returns-clause-unwritten g c tells shut =
    let told : c.is_open.result ≡ true = search rules in
    let was = gate_was c.gate_block.result _ (g.B.Board.view c.args.board.now).state.reads _ c.is_open.result true c.gate_block.ensures
    (c.in_ok-read.ensures.bytes tells) c.is_open.ensures told in
    absurd (let e : true ≡ false = sym was ∙ shut in cc)

pub returns-in_err-read-clause-honest : goal.returns-in_err-read-clause-honest
returns-in_err-read-clause-honest g c h =
    let r = c.in_err-read.ensures.honest h in
    (r.0, record { past = once _ _ r.1; elsewhere = λ k ne. ap (λ (f : ℕ → List ℕ). f k) r.2.reads })

pub returns-then-not-is_open-clause-honest : goal.returns-then-not-is_open-clause-honest
returns-then-not-is_open-clause-honest g c h =
    let r = c.in_ok-read.ensures.honest h in
    let s = c.sync.ensures.honest r.0 in
    (s.0, record { past = followed _ _ _ (once _ _ r.1) (once _ _ s.1); elsewhere = λ k ne. ap (λ (f : ℕ → List ℕ). f k) (s.2.reads ∙ r.2.reads) })

pub returns-in_err-write-clause-honest : goal.returns-in_err-write-clause-honest
returns-in_err-write-clause-honest g c h =
    let r = c.in_ok-read.ensures.honest h in
    let w = c.in_err-write.ensures.honest r.0 in (
      w.0,
      record {
        past = followed _ _ _ (once _ _ r.1) (once _ _ w.1);
        elsewhere = λ k ne. w.2.elsewhere k (λ e. ne (e ∙ c.gate_block-2.ensures)) ∙ ap (λ (f : ℕ → List ℕ). f k) r.2.reads;
      },
    )

pub returns-clause-honest : goal.returns-clause-honest
returns-clause-honest g c h =
    let r = c.in_ok-read.ensures.honest h in
    let w = c.in_ok-write.ensures.honest r.0 in
    let s = c.sync-2.ensures.honest w.0 in (
      s.0,
      record {
        past = followed _ _ _ (once _ _ r.1) (followed _ _ _ (once _ _ w.1) (once _ _ s.1));
        elsewhere = λ k ne.
            ap (λ (f : ℕ → List ℕ). f k) s.2.reads ∙ w.2.elsewhere k (λ e. ne (e ∙ c.gate_block-2.ensures)) ∙ ap (λ (f : ℕ → List ℕ). f k) r.2.reads;
      },
    )
