use Rattle.std.proofs.Common.{◌∙◌, ◌+◌, ℕ, sym, ap, true, false}
use Rattle.epoch.proofs.AloneLemmas.{flipped_alone, laid_alone, shut_alone, written_alone}
use Rattle.epoch.proofs.CallLemmas.{run_more, run_stops}
use Rattle.epoch.specs.Commits.{next_held}
use Rattle.epoch.proofs.PastLemmas.{followed}
use Rattle.epoch.proofs.CommitLemmas.{never_ok, on_err}
use Rattle.epoch.proofs.CommitStages as stages
use Rattle.epoch.proofs.SettledLemmas.{settled_flipped, settled_synced}
use Rattle.epoch.proofs.commits.commit.Goals as goal

pub returns-in_err-shut-clause-calls : goal.returns-in_err-shut-clause-calls
returns-in_err-shut-clause-calls g c = run_stops c.from_residual.result _ _ c.from_residual.ensures.0 c.in_err-shut.ensures.calls

pub returns-in_err-root-clause-calls : goal.returns-in_err-root-clause-calls
returns-in_err-root-clause-calls g c =
    run_stops c.from_residual-in_err-root.result _ _ c.from_residual-in_err-root.ensures.0 (run_more false _ _ _ c.in_ok-shut.ensures.calls c.in_err-root.ensures.calls)

pub returns-in_err-lay-clause-calls : goal.returns-in_err-lay-clause-calls
returns-in_err-lay-clause-calls g c =
    let wrote = run_more true _ _ _ c.in_ok-shut.ensures.calls c.in_ok-root.ensures.calls in
    run_stops c.from_residual-in_err-lay.result _ _ c.from_residual-in_err-lay.ensures.0 (run_more false _ _ _ wrote c.in_err-lay.ensures.calls)

pub returns-in_err-_counter-clause-calls : goal.returns-in_err-_counter-clause-calls
returns-in_err-_counter-clause-calls g c =
    let wrote = run_more true _ _ _ c.in_ok-shut.ensures.calls c.in_ok-root.ensures.calls in
    let laid = run_more true _ _ _ wrote c.in_ok-lay.ensures.calls in
    run_stops c.from_residual-in_err-_counter.result _ _ c.from_residual-in_err-_counter.ensures.0 (run_more false _ _ _ laid c.in_err-_counter.ensures.calls)

pub returns-clause-calls : goal.returns-clause-calls
returns-clause-calls g c =
    let wrote = run_more true _ _ _ c.in_ok-shut.ensures.calls c.in_ok-root.ensures.calls in
    let laid = run_more true _ _ _ wrote c.in_ok-lay.ensures.calls in
    run_more true _ _ _ laid c.in_ok-_counter.ensures.calls

pub returns-clause-root : goal.returns-clause-root
returns-clause-root g c = c.in_ok-root.ensures.root

pub returns-clause-counter : goal.returns-clause-counter
returns-clause-counter g c h settled =
    let hon1 = (c.in_ok-shut.ensures.honest h).0 in
    let hon2 = (c.in_ok-root.ensures.honest hon1).0 in
    let hon3 = (c.in_ok-lay.ensures.honest hon2).0 in
    let shut = settled_synced c.args.sequence _ _ _ (c.in_ok-shut.ensures.shut h).0 settled in
    let wrote = c.in_ok-root.ensures.counter hon1 c.args.sequence shut in
    let laid = settled_synced c.args.sequence _ _ _ (c.in_ok-lay.ensures.laid hon2).0 wrote in
    settled_flipped c.args.sequence _ _ _ _ (c.in_ok-_counter.ensures.flipped hon3) laid

pub returns-in_err-shut-clause-commits : goal.returns-in_err-shut-clause-commits
returns-in_err-shut-clause-commits g c h before begins = record {
  crash =
      let begun = stages.begins g.C.Change.form (g.C.Change.fits c.args.change.now) (g.B.Board.view c.args.board.now) (g.C.Change.root c.args.change.now) before c.slot_for-slot.result c.args.sequence
      g.met.C.Change.framed (g.met.C.Change.still_fits c.args.change.now) c.slot_for-slot.ensures.slot c.requires.sequence begins.last begins.mounted begins.fits in
      stages.crash_shut begun (next_held g.C.Change.form (g.C.Change.after c.args.change.now before.leaves) before.sequence) (g.B.Board.view c.shut.new.board) (c.in_err-shut.ensures.run h);
  done = never_ok c.from_residual.result _ c.from_residual.ensures.0;
  kept =
      let begun = stages.begins g.C.Change.form (g.C.Change.fits c.args.change.now) (g.B.Board.view c.args.board.now) (g.C.Change.root c.args.change.now) before c.slot_for-slot.result c.args.sequence
      g.met.C.Change.framed (g.met.C.Change.still_fits c.args.change.now) c.slot_for-slot.ensures.slot c.requires.sequence begins.last begins.mounted begins.fits in
      on_err _ _ (stages.kept_shut begun (g.B.Board.view c.shut.new.board) (c.in_err-shut.ensures.honest h).1.elsewhere);
  steady =
      let begun = stages.begins g.C.Change.form (g.C.Change.fits c.args.change.now) (g.B.Board.view c.args.board.now) (g.C.Change.root c.args.change.now) before c.slot_for-slot.result c.args.sequence
      g.met.C.Change.framed (g.met.C.Change.still_fits c.args.change.now) c.slot_for-slot.ensures.slot c.requires.sequence begins.last begins.mounted begins.fits in
      on_err _ _ (stages.steady_shut begun (g.B.Board.view c.shut.new.board) (c.in_err-shut.ensures.run h));
}

pub returns-in_err-root-clause-commits : goal.returns-in_err-root-clause-commits
returns-in_err-root-clause-commits g c h before begins = record {
  crash =
      let begun = stages.begins g.C.Change.form (g.C.Change.fits c.args.change.now) (g.B.Board.view c.args.board.now) (g.C.Change.root c.args.change.now) before c.slot_for-slot.result c.args.sequence
      g.met.C.Change.framed (g.met.C.Change.still_fits c.args.change.now) c.slot_for-slot.ensures.slot c.requires.sequence begins.last begins.mounted begins.fits in
      let hon1 = (c.in_ok-shut.ensures.honest h).0 in
      let shut = stages.is_shut begun (g.B.Board.view c.shut.new.board) c.in_ok-shut.ensures.calls.key (c.in_ok-shut.ensures.run h) (c.in_ok-shut.ensures.shut h) in
      let wrote = stages.write_run shut (g.B.Board.view c.write.new.board) (c.in_err-root.ensures.run hon1) in
      stages.crash_spare shut (next_held g.C.Change.form (g.C.Change.after c.args.change.now before.leaves) before.sequence) (g.B.Board.view c.write.new.board) wrote;
  done = never_ok c.from_residual-in_err-root.result _ c.from_residual-in_err-root.ensures.0;
  kept =
      let begun = stages.begins g.C.Change.form (g.C.Change.fits c.args.change.now) (g.B.Board.view c.args.board.now) (g.C.Change.root c.args.change.now) before c.slot_for-slot.result c.args.sequence
      g.met.C.Change.framed (g.met.C.Change.still_fits c.args.change.now) c.slot_for-slot.ensures.slot c.requires.sequence begins.last begins.mounted begins.fits in
      let hon1 = (c.in_ok-shut.ensures.honest h).0 in
      let shut = stages.is_shut begun (g.B.Board.view c.shut.new.board) c.in_ok-shut.ensures.calls.key (c.in_ok-shut.ensures.run h) (c.in_ok-shut.ensures.shut h) in
      let wrote = stages.write_run shut (g.B.Board.view c.write.new.board) (c.in_err-root.ensures.run hon1) in
      on_err _ _ (stages.kept_spare shut (g.B.Board.view c.write.new.board) wrote);
  steady =
      let begun = stages.begins g.C.Change.form (g.C.Change.fits c.args.change.now) (g.B.Board.view c.args.board.now) (g.C.Change.root c.args.change.now) before c.slot_for-slot.result c.args.sequence
      g.met.C.Change.framed (g.met.C.Change.still_fits c.args.change.now) c.slot_for-slot.ensures.slot c.requires.sequence begins.last begins.mounted begins.fits in
      let hon1 = (c.in_ok-shut.ensures.honest h).0 in
      let shut = stages.is_shut begun (g.B.Board.view c.shut.new.board) c.in_ok-shut.ensures.calls.key (c.in_ok-shut.ensures.run h) (c.in_ok-shut.ensures.shut h) in
      let wrote = stages.write_run shut (g.B.Board.view c.write.new.board) (c.in_err-root.ensures.run hon1) in
      on_err _ _ (stages.steady_spare shut (g.B.Board.view c.write.new.board) wrote);
}

pub returns-in_err-lay-clause-commits : goal.returns-in_err-lay-clause-commits
returns-in_err-lay-clause-commits g c h before begins = record {
  crash =
      let begun = stages.begins g.C.Change.form (g.C.Change.fits c.args.change.now) (g.B.Board.view c.args.board.now) (g.C.Change.root c.args.change.now) before c.slot_for-slot.result c.args.sequence
      g.met.C.Change.framed (g.met.C.Change.still_fits c.args.change.now) c.slot_for-slot.ensures.slot c.requires.sequence begins.last begins.mounted begins.fits in
      let hon1 = (c.in_ok-shut.ensures.honest h).0 in
      let hon2 = (c.in_ok-root.ensures.honest hon1).0 in
      let shut = stages.is_shut begun (g.B.Board.view c.shut.new.board) c.in_ok-shut.ensures.calls.key (c.in_ok-shut.ensures.run h) (c.in_ok-shut.ensures.shut h) in
      let wrote = stages.write_run shut (g.B.Board.view c.write.new.board) (c.in_ok-root.ensures.run hon1) in
      let laid = stages.lay_run shut (g.B.Board.view c.write.new.board) (g.B.Board.view c.lay.new.board) _ (sym c.slot_for-slot.ensures.slot) wrote (c.in_err-lay.ensures.run hon2) in
      stages.crash_spare shut (next_held g.C.Change.form (g.C.Change.after c.args.change.now before.leaves) before.sequence) (g.B.Board.view c.lay.new.board) laid;
  done = never_ok c.from_residual-in_err-lay.result _ c.from_residual-in_err-lay.ensures.0;
  kept =
      let begun = stages.begins g.C.Change.form (g.C.Change.fits c.args.change.now) (g.B.Board.view c.args.board.now) (g.C.Change.root c.args.change.now) before c.slot_for-slot.result c.args.sequence
      g.met.C.Change.framed (g.met.C.Change.still_fits c.args.change.now) c.slot_for-slot.ensures.slot c.requires.sequence begins.last begins.mounted begins.fits in
      let hon1 = (c.in_ok-shut.ensures.honest h).0 in
      let hon2 = (c.in_ok-root.ensures.honest hon1).0 in
      let shut = stages.is_shut begun (g.B.Board.view c.shut.new.board) c.in_ok-shut.ensures.calls.key (c.in_ok-shut.ensures.run h) (c.in_ok-shut.ensures.shut h) in
      let wrote = stages.write_run shut (g.B.Board.view c.write.new.board) (c.in_ok-root.ensures.run hon1) in
      let laid = stages.lay_run shut (g.B.Board.view c.write.new.board) (g.B.Board.view c.lay.new.board) _ (sym c.slot_for-slot.ensures.slot) wrote (c.in_err-lay.ensures.run hon2) in
      on_err _ _ (stages.kept_spare shut (g.B.Board.view c.lay.new.board) laid);
  steady =
      let begun = stages.begins g.C.Change.form (g.C.Change.fits c.args.change.now) (g.B.Board.view c.args.board.now) (g.C.Change.root c.args.change.now) before c.slot_for-slot.result c.args.sequence
      g.met.C.Change.framed (g.met.C.Change.still_fits c.args.change.now) c.slot_for-slot.ensures.slot c.requires.sequence begins.last begins.mounted begins.fits in
      let hon1 = (c.in_ok-shut.ensures.honest h).0 in
      let hon2 = (c.in_ok-root.ensures.honest hon1).0 in
      let shut = stages.is_shut begun (g.B.Board.view c.shut.new.board) c.in_ok-shut.ensures.calls.key (c.in_ok-shut.ensures.run h) (c.in_ok-shut.ensures.shut h) in
      let wrote = stages.write_run shut (g.B.Board.view c.write.new.board) (c.in_ok-root.ensures.run hon1) in
      let laid = stages.lay_run shut (g.B.Board.view c.write.new.board) (g.B.Board.view c.lay.new.board) _ (sym c.slot_for-slot.ensures.slot) wrote (c.in_err-lay.ensures.run hon2) in
      on_err _ _ (stages.steady_spare shut (g.B.Board.view c.lay.new.board) laid);
}

pub returns-in_err-_counter-clause-commits : goal.returns-in_err-_counter-clause-commits
returns-in_err-_counter-clause-commits g c h before begins = record {
  crash =
      let begun = stages.begins g.C.Change.form (g.C.Change.fits c.args.change.now) (g.B.Board.view c.args.board.now) (g.C.Change.root c.args.change.now) before c.slot_for-slot.result c.args.sequence
      g.met.C.Change.framed (g.met.C.Change.still_fits c.args.change.now) c.slot_for-slot.ensures.slot c.requires.sequence begins.last begins.mounted begins.fits in
      let hon1 = (c.in_ok-shut.ensures.honest h).0 in
      let hon2 = (c.in_ok-root.ensures.honest hon1).0 in
      let shut = stages.is_shut begun (g.B.Board.view c.shut.new.board) c.in_ok-shut.ensures.calls.key (c.in_ok-shut.ensures.run h) (c.in_ok-shut.ensures.shut h) in
      let wrote = stages.write_run shut (g.B.Board.view c.write.new.board) (c.in_ok-root.ensures.run hon1) in
      let has = stages.has_laid shut (g.C.Change.after c.args.change.now) (g.B.Board.view c.write.new.board) (g.B.Board.view c.lay.new.board) _ _ (sym c.slot_for-slot.ensures.slot)
      c.in_ok-root.ensures.calls.key wrote (c.in_ok-lay.ensures.run hon2) (c.in_ok-lay.ensures.laid hon2).0 (c.in_ok-lay.ensures.good hon2)
      c.version-version.ensures (ap (λ (s : ℕ). s + 1) (sym begins.last)) (c.in_ok-root.ensures.written hon1) in
      stages.crash_flip has (g.B.Board.view c.flip.new.board) (c.in_err-_counter.ensures.run (c.in_ok-lay.ensures.honest hon2).0);
  done = never_ok c.from_residual-in_err-_counter.result _ c.from_residual-in_err-_counter.ensures.0;
  kept =
      let begun = stages.begins g.C.Change.form (g.C.Change.fits c.args.change.now) (g.B.Board.view c.args.board.now) (g.C.Change.root c.args.change.now) before c.slot_for-slot.result c.args.sequence
      g.met.C.Change.framed (g.met.C.Change.still_fits c.args.change.now) c.slot_for-slot.ensures.slot c.requires.sequence begins.last begins.mounted begins.fits in
      let hon1 = (c.in_ok-shut.ensures.honest h).0 in
      let hon2 = (c.in_ok-root.ensures.honest hon1).0 in
      let shut = stages.is_shut begun (g.B.Board.view c.shut.new.board) c.in_ok-shut.ensures.calls.key (c.in_ok-shut.ensures.run h) (c.in_ok-shut.ensures.shut h) in
      let wrote = stages.write_run shut (g.B.Board.view c.write.new.board) (c.in_ok-root.ensures.run hon1) in
      let has = stages.has_laid shut (g.C.Change.after c.args.change.now) (g.B.Board.view c.write.new.board) (g.B.Board.view c.lay.new.board) _ _ (sym c.slot_for-slot.ensures.slot)
      c.in_ok-root.ensures.calls.key wrote (c.in_ok-lay.ensures.run hon2) (c.in_ok-lay.ensures.laid hon2).0 (c.in_ok-lay.ensures.good hon2)
      c.version-version.ensures (ap (λ (s : ℕ). s + 1) (sym begins.last)) (c.in_ok-root.ensures.written hon1) in
      on_err _ _ (stages.kept_flip has (g.B.Board.view c.flip.new.board) ((c.in_err-_counter.ensures.honest (c.in_ok-lay.ensures.honest hon2).0).1.alone.reads));
  steady =
      let begun = stages.begins g.C.Change.form (g.C.Change.fits c.args.change.now) (g.B.Board.view c.args.board.now) (g.C.Change.root c.args.change.now) before c.slot_for-slot.result c.args.sequence
      g.met.C.Change.framed (g.met.C.Change.still_fits c.args.change.now) c.slot_for-slot.ensures.slot c.requires.sequence begins.last begins.mounted begins.fits in
      let hon1 = (c.in_ok-shut.ensures.honest h).0 in
      let hon2 = (c.in_ok-root.ensures.honest hon1).0 in
      let shut = stages.is_shut begun (g.B.Board.view c.shut.new.board) c.in_ok-shut.ensures.calls.key (c.in_ok-shut.ensures.run h) (c.in_ok-shut.ensures.shut h) in
      let wrote = stages.write_run shut (g.B.Board.view c.write.new.board) (c.in_ok-root.ensures.run hon1) in
      let has = stages.has_laid shut (g.C.Change.after c.args.change.now) (g.B.Board.view c.write.new.board) (g.B.Board.view c.lay.new.board) _ _ (sym c.slot_for-slot.ensures.slot)
      c.in_ok-root.ensures.calls.key wrote (c.in_ok-lay.ensures.run hon2) (c.in_ok-lay.ensures.laid hon2).0 (c.in_ok-lay.ensures.good hon2)
      c.version-version.ensures (ap (λ (s : ℕ). s + 1) (sym begins.last)) (c.in_ok-root.ensures.written hon1) in
      let hon3 = (c.in_ok-lay.ensures.honest hon2).0 in
      on_err _ _ (stages.steady_flip has (g.B.Board.view c.flip.new.board) (c.in_err-_counter.ensures.honest hon3).1.alone.reads (c.in_err-_counter.ensures.honest hon3).1.alone.pending);
}

pub returns-clause-commits : goal.returns-clause-commits
returns-clause-commits g c h before begins = record {
  crash =
      let begun = stages.begins g.C.Change.form (g.C.Change.fits c.args.change.now) (g.B.Board.view c.args.board.now) (g.C.Change.root c.args.change.now) before c.slot_for-slot.result c.args.sequence
      g.met.C.Change.framed (g.met.C.Change.still_fits c.args.change.now) c.slot_for-slot.ensures.slot c.requires.sequence begins.last begins.mounted begins.fits in
      let hon1 = (c.in_ok-shut.ensures.honest h).0 in
      let hon2 = (c.in_ok-root.ensures.honest hon1).0 in
      let shut = stages.is_shut begun (g.B.Board.view c.shut.new.board) c.in_ok-shut.ensures.calls.key (c.in_ok-shut.ensures.run h) (c.in_ok-shut.ensures.shut h) in
      let wrote = stages.write_run shut (g.B.Board.view c.write.new.board) (c.in_ok-root.ensures.run hon1) in
      let has = stages.has_laid shut (g.C.Change.after c.args.change.now) (g.B.Board.view c.write.new.board) (g.B.Board.view c.lay.new.board) _ _ (sym c.slot_for-slot.ensures.slot)
      c.in_ok-root.ensures.calls.key wrote (c.in_ok-lay.ensures.run hon2) (c.in_ok-lay.ensures.laid hon2).0 (c.in_ok-lay.ensures.good hon2)
      c.version-version.ensures (ap (λ (s : ℕ). s + 1) (sym begins.last)) (c.in_ok-root.ensures.written hon1) in
      stages.crash_flip has (g.B.Board.view c.flip.new.board) (c.in_ok-_counter.ensures.run (c.in_ok-lay.ensures.honest hon2).0);
  done =
      let begun = stages.begins g.C.Change.form (g.C.Change.fits c.args.change.now) (g.B.Board.view c.args.board.now) (g.C.Change.root c.args.change.now) before c.slot_for-slot.result c.args.sequence
      g.met.C.Change.framed (g.met.C.Change.still_fits c.args.change.now) c.slot_for-slot.ensures.slot c.requires.sequence begins.last begins.mounted begins.fits in
      let hon1 = (c.in_ok-shut.ensures.honest h).0 in
      let hon2 = (c.in_ok-root.ensures.honest hon1).0 in
      let shut = stages.is_shut begun (g.B.Board.view c.shut.new.board) c.in_ok-shut.ensures.calls.key (c.in_ok-shut.ensures.run h) (c.in_ok-shut.ensures.shut h) in
      let wrote = stages.write_run shut (g.B.Board.view c.write.new.board) (c.in_ok-root.ensures.run hon1) in
      let has = stages.has_laid shut (g.C.Change.after c.args.change.now) (g.B.Board.view c.write.new.board) (g.B.Board.view c.lay.new.board) _ _ (sym c.slot_for-slot.ensures.slot)
      c.in_ok-root.ensures.calls.key wrote (c.in_ok-lay.ensures.run hon2) (c.in_ok-lay.ensures.laid hon2).0 (c.in_ok-lay.ensures.good hon2)
      c.version-version.ensures (ap (λ (s : ℕ). s + 1) (sym begins.last)) (c.in_ok-root.ensures.written hon1) in
      let hon3 = (c.in_ok-lay.ensures.honest hon2).0 in
      let flipped = c.in_ok-_counter.ensures.flipped hon3 in
      let key3 = c.in_ok-lay.ensures.calls.key ∙ c.in_ok-root.ensures.calls.key ∙ c.in_ok-shut.ensures.calls.key in (
        stages.mounted_flipped has _ (g.B.Board.view c.flip.new.board) key3 flipped (c.in_ok-_counter.ensures.opened hon3),
        stages.fits_flipped has (g.C.Change.keeps _) _ _ (g.B.Board.view c.shut.new.board) (g.B.Board.view c.flip.new.board) c.in_ok-shut.ensures.calls.key flipped (g.met.C.Change.still_keeps _)
            (c.in_ok-root.ensures.keeps hon1 shut.fits),
      );
  kept = tt;
  steady = tt;
}

pub returns-in_err-shut-clause-honest : goal.returns-in_err-shut-clause-honest
returns-in_err-shut-clause-honest g c h = (
  (c.in_err-shut.ensures.honest h).0,
  record {
    past = (c.in_err-shut.ensures.honest h).1.past;
    alone =
        let e = c.in_err-shut.ensures in
        shut_alone g.C.Change.untouched c.slot_for-slot.result _ _ c.slot_for-slot.ensures.below (g.met.B.Board.consistent c.args.board.now h) (e.honest h).1.elsewhere (e.run h);
  },
)

pub returns-in_err-root-clause-honest : goal.returns-in_err-root-clause-honest
returns-in_err-root-clause-honest g c h = (
  (c.in_err-root.ensures.honest (c.in_ok-shut.ensures.honest h).0).0,
  record {
    past = followed _ _ _ (c.in_ok-shut.ensures.honest h).1.past (c.in_err-root.ensures.honest (c.in_ok-shut.ensures.honest h).0).1.past;
    alone =
        let e = c.in_ok-shut.ensures in
        let hon1 = (e.honest h).0 in
        written_alone g.C.Change.untouched _ _ _
        (shut_alone g.C.Change.untouched c.slot_for-slot.result _ _ c.slot_for-slot.ensures.below (g.met.B.Board.consistent c.args.board.now h) (e.honest h).1.elsewhere (e.run h))
        (c.in_err-root.ensures.honest hon1).1.alone;
  },
)

pub returns-in_err-lay-clause-honest : goal.returns-in_err-lay-clause-honest
returns-in_err-lay-clause-honest g c h = (
  (c.in_err-lay.ensures.honest (c.in_ok-root.ensures.honest (c.in_ok-shut.ensures.honest h).0).0).0,
  record {
    past =
        let hon1 = (c.in_ok-shut.ensures.honest h).0 in
        let hon2 = (c.in_ok-root.ensures.honest hon1).0 in
        followed _ _ _ (c.in_ok-shut.ensures.honest h).1.past (followed _ _ _ (c.in_ok-root.ensures.honest hon1).1.past (c.in_err-lay.ensures.honest hon2).1.past);
    alone =
        let e = c.in_ok-shut.ensures in
        let hon1 = (e.honest h).0 in
        let hon2 = (c.in_ok-root.ensures.honest hon1).0 in
        laid_alone g.C.Change.untouched _ _ _ _
        (written_alone g.C.Change.untouched _ _ _
        (shut_alone g.C.Change.untouched c.slot_for-slot.result _ _ c.slot_for-slot.ensures.below (g.met.B.Board.consistent c.args.board.now h) (e.honest h).1.elsewhere (e.run h))
        (c.in_ok-root.ensures.honest hon1).1.alone)
        (g.met.B.Board.consistent c.write.new.board hon2) (c.in_err-lay.ensures.honest hon2).1.elsewhere (c.in_err-lay.ensures.run hon2);
  },
)

pub returns-in_err-_counter-clause-honest : goal.returns-in_err-_counter-clause-honest
returns-in_err-_counter-clause-honest g c h = (
  (c.in_err-_counter.ensures.honest (c.in_ok-lay.ensures.honest (c.in_ok-root.ensures.honest (c.in_ok-shut.ensures.honest h).0).0).0).0,
  record {
    past =
        let hon1 = (c.in_ok-shut.ensures.honest h).0 in
        let hon2 = (c.in_ok-root.ensures.honest hon1).0 in
        let hon3 = (c.in_ok-lay.ensures.honest hon2).0 in
        followed _ _ _ (c.in_ok-shut.ensures.honest h).1.past
        (followed _ _ _ (c.in_ok-root.ensures.honest hon1).1.past (followed _ _ _ (c.in_ok-lay.ensures.honest hon2).1.past (c.in_err-_counter.ensures.honest hon3).1.past));
    alone =
        let e = c.in_ok-shut.ensures in
        let hon1 = (e.honest h).0 in
        let hon2 = (c.in_ok-root.ensures.honest hon1).0 in
        flipped_alone g.C.Change.untouched c.slot_for-slot.result _ _ _ c.slot_for-slot.ensures.below
        (laid_alone g.C.Change.untouched _ _ _ _
        (written_alone g.C.Change.untouched _ _ _
        (shut_alone g.C.Change.untouched c.slot_for-slot.result _ _ c.slot_for-slot.ensures.below (g.met.B.Board.consistent c.args.board.now h) (e.honest h).1.elsewhere (e.run h))
        (c.in_ok-root.ensures.honest hon1).1.alone)
        (g.met.B.Board.consistent c.write.new.board hon2) (c.in_ok-lay.ensures.honest hon2).1.elsewhere (c.in_ok-lay.ensures.run hon2))
        ((c.in_err-_counter.ensures.honest (c.in_ok-lay.ensures.honest hon2).0).1.alone);
  },
)

pub returns-clause-honest : goal.returns-clause-honest
returns-clause-honest g c h = (
  (c.in_ok-_counter.ensures.honest (c.in_ok-lay.ensures.honest (c.in_ok-root.ensures.honest (c.in_ok-shut.ensures.honest h).0).0).0).0,
  record {
    past =
        let hon1 = (c.in_ok-shut.ensures.honest h).0 in
        let hon2 = (c.in_ok-root.ensures.honest hon1).0 in
        let hon3 = (c.in_ok-lay.ensures.honest hon2).0 in
        followed _ _ _ (c.in_ok-shut.ensures.honest h).1.past
        (followed _ _ _ (c.in_ok-root.ensures.honest hon1).1.past (followed _ _ _ (c.in_ok-lay.ensures.honest hon2).1.past (c.in_ok-_counter.ensures.honest hon3).1.past));
    alone =
        let e = c.in_ok-shut.ensures in
        let hon1 = (e.honest h).0 in
        let hon2 = (c.in_ok-root.ensures.honest hon1).0 in
        flipped_alone g.C.Change.untouched c.slot_for-slot.result _ _ _ c.slot_for-slot.ensures.below
        (laid_alone g.C.Change.untouched _ _ _ _
        (written_alone g.C.Change.untouched _ _ _
        (shut_alone g.C.Change.untouched c.slot_for-slot.result _ _ c.slot_for-slot.ensures.below (g.met.B.Board.consistent c.args.board.now h) (e.honest h).1.elsewhere (e.run h))
        (c.in_ok-root.ensures.honest hon1).1.alone)
        (g.met.B.Board.consistent c.write.new.board hon2) (c.in_ok-lay.ensures.honest hon2).1.elsewhere (c.in_ok-lay.ensures.run hon2))
        ((c.in_ok-_counter.ensures.honest (c.in_ok-lay.ensures.honest hon2).0).1.alone);
  },
)

pub returns-clause-entries : goal.returns-clause-entries
returns-clause-entries g c key checks = c.in_ok-root.ensures.entries key checks
