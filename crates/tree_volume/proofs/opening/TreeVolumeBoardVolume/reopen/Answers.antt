use Rattle.std.proofs.Common.{◌≡◌, ◌<◌, ◌∙◌, ℕ, List, Ok, Err, Option, Some, true, refl, sym, ap, subst, inl, rules}
use Rattle.std.proofs.lemmas.Bool.{false≢true}
use Rattle.tee_base.specs.Crash.{LeavesOnly}
use Rattle.store_api.specs.Volumes.{Held}
use Rattle.board.specs.Moment.{View, left_since, moment}
use Rattle.board.specs.Steps.{CallRun}
use Rattle.epoch.proofs.AloneLemmas.{alone_fewer}
use Rattle.epoch.proofs.CallLemmas.{run_as, run_more}
use Rattle.epoch.proofs.CommitLemmas.{on_err}
use Rattle.epoch.proofs.KeepLemmas.{held_steady, steady_in_use, steady_same}
use Rattle.epoch.proofs.AdmitLemmas.{lifted}
use Rattle.epoch.proofs.MountLemmas.{before_above, board_sound, might_as_read, past_above}
use Rattle.epoch.proofs.OpenLemmas.{not_ok, told_so}
use Rattle.epoch.proofs.PastLemmas.{followed}
use Rattle.epoch.specs.Finding.{IsSettledAt, sequence_of}
use Rattle.epoch.specs.Alone.{LeavesAlone}
use Rattle.epoch.specs.Mounting.{MountsTo}
use Rattle.epoch.specs.Mounts.{IsAdmittedTo, IsRefusal, IsRefusedNow, IsReopened, KeepsFound, MightBe}
use Rattle.epoch.specs.Opening.{no_failure}
use Rattle.epoch.specs.Past.{KeepsPast}
use Rattle.epoch.specs.Reopening.{reopened_of, sequence_after, shows_kept}
use Rattle.epoch.specs.declared.answer.OpenAnswer.{OpenAnswer}
use Rattle.epoch.specs.declared.answer.OpenAnswer.TheVariants.{Failed}
use Rattle.epoch.specs.declared.header.TreeEntry.{TreeEntry}
use Rattle.epoch.specs.declared.taking.Reopened.{Reopened}
use Rattle.tree_paths.specs.Form.{form_root}
use Rattle.v1_volume.specs.Versions.{volume_form}
use Rattle.v1_volume.specs.Frame.{volume_format, volume_framed}
use Rattle.tree_volume.specs.Keeping.{held_now}
use Rattle.tree_volume.proofs.AnewLemmas.{anew_before, anew_open}
use Rattle.tree_volume.proofs.ReopenLemmas.{admitted_then, after_kept, alone_then, found_anew, keeps_err, keeps_ok, keeps_search, mounted_then, not_rewritten, open_as}
use Rattle.tree_volume.proofs.ReopenLemmas.{other_answer, reads_then, refusal_then, refused_then, settled_at}
use Rattle.tree_volume.proofs.opening.TreeVolumeBoardVolume.reopen.Goals as goal

-- ---- no header was found

pub returns-in_err-found-clause-opened : goal.returns-in_err-found-clause-opened
returns-in_err-found-clause-opened g c honest sound =
    let v = g.B.Board.view c.args.self.now.board in
    let w = g.B.Board.view c.mount_again.new.board in
    let is : c.from_residual.result ≡ Err c.in_err-found.field-0.0 = search rules in
    let again = c.in_err-found.ensures.again honest volume_form volume_framed volume_format c.args.self.now.large (board_sound volume_form v sound.sound) in
    let run = c.in_err-found.ensures.leaves honest volume_form volume_format in
    let key = c.in_err-found.ensures.search.calls.key in
    record {
      opened = not_ok c.from_residual.result _ c.from_residual.ensures.0;
      kept = not_ok c.from_residual.result _ c.from_residual.ensures.0;
      writes = c.in_err-found.ensures.search.writes;
      failed = told_so c.from_residual.result c.in_err-found.field-0.0 (λ why. why ≡ Failed) is again.failed;
      fresh = not_ok c.from_residual.result _ c.from_residual.ensures.0;
      honest = λ is. (
        c.in_err-found.ensures.honest honest,
        λ live. absurd (false≢true (sym live)),
        steady_same volume_form volume_framed v w (form_root c.args.self.now.root) key (c.in_err-found.ensures.settled honest) is.2,
        anew_before v w key run is.3,
      );
      same = λ is. on_err c.from_residual.result _ (held_steady volume_form volume_framed v w (form_root c.args.self.now.root) c.args.self.now.sequence key
          (c.in_err-found.ensures.settled honest) is.2);
      leaves = record {
        crash = before_above volume_form (λ x. g.B.Board.view x.board) _ _ key run;
        past = past_above volume_form v w key (c.in_err-found.ensures.past honest);
      };
    }

pub returns-in_err-found-clause-root : goal.returns-in_err-found-clause-root
returns-in_err-found-clause-root g c = on_err c.from_residual.result _ refl

pub returns-in_err-found-clause-writes : goal.returns-in_err-found-clause-writes
returns-in_err-found-clause-writes g c kept = c.in_err-found.ensures.search.writes

pub returns-in_err-found-clause-calls : goal.returns-in_err-found-clause-calls
returns-in_err-found-clause-calls g c =
    let is : c.from_residual.result ≡ Err c.in_err-found.field-0.0 = search rules in
    run_as _ _ _ _ (ap no_failure is) c.in_err-found.ensures.search.calls

pub returns-in_err-found-clause-honest : goal.returns-in_err-found-clause-honest
returns-in_err-found-clause-honest g c honest =
    let v = g.B.Board.view c.args.self.now.board in
    let w = g.B.Board.view c.mount_again.new.board in
    let is : c.from_residual.result ≡ Err c.in_err-found.field-0.0 = search rules in
    let told = c.in_err-found.ensures.exact honest in (
      c.in_err-found.ensures.honest honest,
      record {
        reads = λ kept. c.in_err-found.ensures.reads honest;
        past = c.in_err-found.ensures.past honest;
        alone = alone_fewer (λ (k : ℕ). Unit {0}) (λ (k : ℕ). (3 < k) × (k < 8742)) _ _ (λ k is. tt) (c.in_err-found.ensures.alone honest);
        found = told.0;
        among = told.1;
        exact = (
          told_so c.from_residual.result c.in_err-found.field-0.0 (λ why. IsRefusal volume_form v v.state.reads told.0 why) is
              (lifted volume_form v.key v.state.reads _ c.in_err-found.field-0.0 (told.2 volume_form volume_format).0),
          not_ok c.from_residual.result _ c.from_residual.ensures.0,
        );
        holds = λ h held.
            keeps_search v w v.state.reads told.0 c.from_residual.result _ h c.from_residual.ensures.0 (c.in_err-found.ensures.leaves honest volume_form volume_format);
        counter = not_ok c.from_residual.result _ c.from_residual.ensures.0;
        refusal = told_so c.from_residual.result c.in_err-found.field-0.0 (λ why. IsRefusedNow volume_form w why) is (c.in_err-found.ensures.refusal honest volume_form volume_format);
      },
    )

-- ---- one was, and isn't taken up

pub returns-in_err-opened-clause-root : goal.returns-in_err-opened-clause-root
returns-in_err-opened-clause-root g c = on_err c.from_residual-in_err-opened.result _ refl

pub returns-in_err-opened-clause-writes : goal.returns-in_err-opened-clause-writes
returns-in_err-opened-clause-writes g c kept =
    let e : OpenAnswer = c.in_err-opened.field-0.0 in
    let is : c.from_residual-in_err-opened.result ≡ Err e = search rules in
    c.in_err-opened.ensures.takes.unwritten (other_answer e (ap shows_kept (sym is) ∙ kept)) ∙ c.in_ok-found.ensures.search.writes

pub returns-in_err-opened-clause-calls : goal.returns-in_err-opened-clause-calls
returns-in_err-opened-clause-calls g c =
    let is : c.from_residual-in_err-opened.result ≡ Err c.in_err-opened.field-0.0 = search rules in
    run_as _ _ _ _ (ap no_failure is) (run_more _ _ _ _ c.in_ok-found.ensures.search.calls c.in_err-opened.ensures.takes.calls)

pub returns-in_err-opened-clause-opened : goal.returns-in_err-opened-clause-opened
returns-in_err-opened-clause-opened g c honest sound =
    let v = g.B.Board.view c.args.self.now.board in
    let w = g.B.Board.view c.mount_again.new.board in
    let again = c.in_ok-found.ensures.again honest volume_form volume_framed volume_format c.args.self.now.large (board_sound volume_form v sound.sound) in
    let anew = sound.written again.chosen (again.among.0, inl again.among.1, sym again.among.2) in
    let kept = found_anew v.key w c.in_ok-found.found again.chosen again.mounted anew in
    absurd (c.in_err-opened.ensures.same kept).1

pub returns-in_err-opened-clause-honest : goal.returns-in_err-opened-clause-honest
returns-in_err-opened-clause-honest g c honest =
    let v = g.B.Board.view c.args.self.now.board in
    let w = g.B.Board.view c.mount_again.new.board in
    let n = g.B.Board.view c.take_again.new.board in
    let e : OpenAnswer = c.in_err-opened.field-0.0 in
    let is : c.from_residual-in_err-opened.result ≡ Err e = search rules in
    let found = c.in_ok-found.ensures in
    let hon = found.honest honest in
    let told = found.exact honest in
    let take = c.in_err-opened.ensures.honest hon in
    let form = c.in_err-opened.ensures.told (g.met.B.Board.honest_reads c.mount_again.new.board hon) in
    let calls = c.in_err-opened.ensures.takes.calls in
    let fits = (g.met.B.Board.consistent c.take_again.new.board take.0).counter in
    let settled : IsSettledAt (sequence_of c.in_ok-found.found) w.state = settled_at (sequence_of c.in_ok-found.found) w.state (found.rests honest) in (
      take.0,
      record {
        reads = λ kept. reads_then v w n c.in_ok-found.found found.search.calls.size found.search.calls.key calls.size calls.key fits v.state.reads (found.reads honest) told.0
            (told.2 volume_form volume_format) settled e take.1 (ap shows_kept (sym is) ∙ kept) ∙ found.reads honest;
        past = followed _ _ _ (found.past honest) take.1.past;
        alone = alone_then v w n (found.alone honest) take.1.alone;
        found = told.0;
        among = told.1;
        exact = (
          told_so c.from_residual-in_err-opened.result e (λ why. IsRefusal volume_form v v.state.reads told.0 why) is
              (refusal_then v w n c.in_ok-found.found found.search.calls.size found.search.calls.key calls.size calls.key fits v.state.reads (found.reads honest) told.0
              (told.2 volume_form volume_format) settled e form),
          not_ok c.from_residual-in_err-opened.result _ c.from_residual-in_err-opened.ensures.0,
        );
        holds = λ h held.
            let might = might_as_read volume_form v (g.met.B.Board.consistent c.args.self.now.board honest) told.0 told.1 h held in
            let run = found.leaves honest volume_form volume_format in
            let ruled = told.2 volume_form volume_format in
            keeps_err v w n c.in_ok-found.found found.search.calls.key calls.key v.state.reads (found.reads honest) told.0 ruled (found.rests honest) h held might run
            c.from_residual-in_err-opened.result e _ is
            (c.in_err-opened.ensures.opens hon h
            (mounted_then v w n c.in_ok-found.found found.search.calls.key calls.key v.state.reads (found.reads honest) told.0 ruled (found.rests honest) h held might run));
        counter = not_ok c.from_residual-in_err-opened.result _ c.from_residual-in_err-opened.ensures.0;
        refusal = told_so c.from_residual-in_err-opened.result e (λ why. IsRefusedNow volume_form n why) is
            (refused_then v w n c.in_ok-found.found found.search.calls.size found.search.calls.key calls.size calls.key fits v.state.reads (found.reads honest) told.0
            (told.2 volume_form volume_format) settled (Err e) form take.1);
      },
    )

-- ---- it is taken up

pub returns-clause-calls : goal.returns-clause-calls
returns-clause-calls g c =
    subst (CallRun true (g.B.Board.view c.args.self.now.board)) (sym (ap g.B.Board.view c.resume.ensures.board))
    (run_more _ _ _ _ c.in_ok-found.ensures.search.calls c.in_ok-opened.ensures.takes.calls)

pub returns-clause-writes : goal.returns-clause-writes
returns-clause-writes g c kept =
    let is : c.reopened_from.result ≡ reopened_of 2 c.in_ok-found.found = c.reopened_from.ensures in
    let same = (c.in_ok-opened.ensures.same (ap (λ (t : Reopened). t.rewritten) (sym is) ∙ not_rewritten c.reopened_from.result.rewritten kept)).0 in
    ap (λ (x : View). x.writes) (ap g.B.Board.view c.resume.ensures.board ∙ same) ∙ c.in_ok-found.ensures.search.writes

pub returns-clause-back : goal.returns-clause-back
returns-clause-back g c = record {
  works = c.resume.ensures.works;
  lost = tt;
  sequence = c.resume.ensures.sequence ∙ c.in_ok-opened.ensures.sequence ∙ ap sequence_after (sym c.reopened_from.ensures);
}

pub returns-clause-bare : goal.returns-clause-bare
returns-clause-bare g c = λ image. tt

pub returns-clause-opened : goal.returns-clause-opened
returns-clause-opened g c honest sound =
    let v = g.B.Board.view c.args.self.now.board in
    let w = g.B.Board.view c.mount_again.new.board in
    let n = g.B.Board.view c.resume.new.self.board in
    let root : TreeEntry = c.resume.new.self.root in
    let sequence : ℕ = c.resume.new.self.sequence in
    let again = c.in_ok-found.ensures.again honest volume_form volume_framed volume_format c.args.self.now.large (board_sound volume_form v sound.sound) in
    let anew = sound.written again.chosen (again.among.0, inl again.among.1, sym again.among.2) in
    let kept = found_anew v.key w c.in_ok-found.found again.chosen again.mounted anew in
    let stays : n ≡ w = ap g.B.Board.view c.resume.ensures.board ∙ (c.in_ok-opened.ensures.same kept).0 in
    let key = c.in_ok-found.ensures.search.calls.key in
    let mounted = subst (λ (k : List ℕ). MountsTo volume_form k again.chosen w.state c.in_ok-found.found) (sym key) again.mounted in
    let opens = c.in_ok-opened.ensures.opens (c.in_ok-found.ensures.honest honest) again.chosen mounted in
    let both = open_as (g.B.Board.view c.take_again.new.board) n c.in_ok-opened.opened.root root c.in_ok-opened.opened.sequence sequence again.chosen
    (ap g.B.Board.view c.resume.ensures.board) c.resume.ensures.root c.resume.ensures.sequence
    (opens.opened.0, opens.opened.1 ∙ after_kept c.in_ok-found.found again.chosen kept) in
    let key' : n.key ≡ v.key = ap (λ (x : View). x.key) stays ∙ key in
    let held : Some again.chosen ≡ Some (held_now n root sequence) = ap (λ (h : Held). let o : Option Held = Some h in o) (sym both.1) in
    let run : LeavesOnly moment left_since v n (MightBe volume_form v.key v.state)
    = subst (λ (x : View). LeavesOnly moment left_since v x (MightBe volume_form v.key v.state)) (sym stays) (c.in_ok-found.ensures.leaves honest volume_form volume_format) in
    let past : KeepsPast v n = subst (KeepsPast v) (sym stays) (c.in_ok-found.ensures.past honest) in
    let honest' = subst g.B.Board.honest (sym c.resume.ensures.board) (c.in_ok-opened.ensures.honest (c.in_ok-found.ensures.honest honest)).0 in
    let steady = steady_in_use volume_form volume_framed n (form_root root) sequence both.0 in
    let new = anew_open n root sequence both.0 in
    record {
      opened = (again.among.0, inl again.among.1, sym (again.among.2 ∙ held));
      kept = ap (λ (t : Reopened). t.rewritten) c.reopened_from.ensures ∙ kept;
      writes = ap (λ (x : View). x.writes) stays ∙ c.in_ok-found.ensures.search.writes;
      failed = tt;
      fresh = (honest', λ live. both.0, steady, new);
      honest = λ is. (honest', λ live. both.0, steady, new);
      same = λ is. tt;
      leaves = record {
        crash = before_above volume_form (λ x. g.B.Board.view x.board) _ _ key' run;
        past = past_above volume_form v n key' past;
      };
    }

pub returns-clause-honest : goal.returns-clause-honest
returns-clause-honest g c honest =
    let v = g.B.Board.view c.args.self.now.board in
    let w = g.B.Board.view c.mount_again.new.board in
    let n = g.B.Board.view c.take_again.new.board in
    let m = g.B.Board.view c.resume.new.self.board in
    let stays : m ≡ n = ap g.B.Board.view c.resume.ensures.board in
    let is : c.reopened_from.result ≡ reopened_of 2 c.in_ok-found.found = c.reopened_from.ensures in
    let found = c.in_ok-found.ensures in
    let hon = found.honest honest in
    let told = found.exact honest in
    let take = c.in_ok-opened.ensures.honest hon in
    let form = c.in_ok-opened.ensures.told (g.met.B.Board.honest_reads c.mount_again.new.board hon) in
    let calls = c.in_ok-opened.ensures.takes.calls in
    let fits = (g.met.B.Board.consistent c.take_again.new.board take.0).counter in
    let settled : IsSettledAt (sequence_of c.in_ok-found.found) w.state = settled_at (sequence_of c.in_ok-found.found) w.state (found.rests honest) in (
      subst g.B.Board.honest (sym c.resume.ensures.board) take.0,
      record {
        reads = λ kept. ap (λ (x : View). x.state.reads) (stays ∙ (c.in_ok-opened.ensures.same (ap (λ (t : Reopened). t.rewritten) (sym is) ∙ not_rewritten c.reopened_from.result.rewritten kept)).0)
            ∙ found.reads honest;
        past = subst (KeepsPast v) (sym stays) (followed _ _ _ (found.past honest) take.1.past);
        alone = subst (LeavesAlone (λ (k : ℕ). (3 < k) × (k < 8742)) v) (sym stays) (alone_then v w n (found.alone honest) take.1.alone);
        found = told.0;
        among = told.1;
        exact = (
          tt,
          subst (λ (r : TreeEntry). IsAdmittedTo volume_form v v.state.reads told.0 (IsReopened volume_form c.reopened_from.result (form_root r))) (sym c.resume.ensures.root)
              (admitted_then v w n c.in_ok-found.found found.search.calls.size found.search.calls.key calls.size calls.key fits v.state.reads (found.reads honest) told.0
              (told.2 volume_form volume_format) settled c.in_ok-opened.opened c.reopened_from.result is c.in_ok-opened.ensures.sequence c.in_ok-opened.ensures.taken form),
        );
        holds = λ h held.
            let might = might_as_read volume_form v (g.met.B.Board.consistent c.args.self.now.board honest) told.0 told.1 h held in
            let run = found.leaves honest volume_form volume_format in
            let ruled = told.2 volume_form volume_format in
            let now : Held = held_now m c.resume.new.self.root c.resume.new.self.sequence in
            let same : now ≡ held_now n c.in_ok-opened.opened.root c.in_ok-opened.opened.sequence
            = λ i. held_now (stays i) (c.resume.ensures.root i) (c.resume.ensures.sequence i) in
            subst (λ (x : View). KeepsFound volume_form v.state.reads told.0 (Ok c.reopened_from.result) now v x h) (sym stays)
            (keeps_ok v w n c.in_ok-found.found found.search.calls.key calls.key v.state.reads (found.reads honest) told.0 ruled (found.rests honest) h held might run
            c.reopened_from.result c.in_ok-opened.opened now same
            (c.in_ok-opened.ensures.opens hon h
            (mounted_then v w n c.in_ok-found.found found.search.calls.key calls.key v.state.reads (found.reads honest) told.0 ruled (found.rests honest) h held might run)));
        counter = subst (λ (s : ℕ). IsSettledAt s m.state) (sym c.resume.ensures.sequence)
            (subst (λ (x : View). IsSettledAt c.in_ok-opened.opened.sequence x.state) (sym stays) (take.1.counter settled));
        refusal = tt;
      },
    )
