use Rattle.std.proofs.Common.{◌≡◌, ◌<◌, ◌∙◌, ℕ, List, Ok, Err, Option, Some, true, refl, sym, ap, subst, inl, rules}
use Rattle.std.proofs.lemmas.Bool.{false≢true}
use Rattle.tee_base.specs.Crash.{LeavesOnly}
use Rattle.store_api.specs.Volumes.{Held}
use Rattle.board.specs.Moment.{IsLeft, CrashImage, View, left_since, moment}
use Rattle.epoch.proofs.CallLemmas.{run_as}
use Rattle.epoch.proofs.CommitLemmas.{on_err}
use Rattle.epoch.proofs.KeepLemmas.{held_steady, steady_in_use, steady_same}
use Rattle.epoch.proofs.AdmitLemmas.{lifted}
use Rattle.epoch.proofs.MountLemmas.{before_above, board_sound, past_above, rests_above}
use Rattle.epoch.proofs.OpenLemmas.{not_ok, told_so}
use Rattle.epoch.proofs.PastLemmas.{followed}
use Rattle.epoch.specs.Finding.{IsSettledAt, sequence_of}
use Rattle.epoch.specs.Forms.{held_of}
use Rattle.epoch.specs.Mounting.{MountsTo}
use Rattle.epoch.specs.Mounts.{IsAdmittedTo, IsRefusal, IsRefusedNow, IsReopened, LeftByOrder, LosesPower, LosesPowerByRule, MightBe, PowerFirst}
use Rattle.epoch.specs.Opening.{no_failure}
use Rattle.epoch.specs.Past.{KeepsPast}
use Rattle.epoch.specs.Reopening.{reopened_of, sequence_after, shows_kept}
use Rattle.epoch.specs.declared.answer.OpenAnswer.{OpenAnswer}
use Rattle.epoch.specs.declared.answer.OpenAnswer.TheVariants.{Failed}
use Rattle.epoch.specs.declared.header.TreeEntry.{TreeEntry}
use Rattle.epoch.specs.declared.taking.Reopened.{Reopened}
use Rattle.tree_paths.specs.Form.{form_root}
use Rattle.v1_volume.specs.Versions.{volume_form}
use Rattle.v1_volume.specs.Frame.{volume_format, volume_framed}
use Rattle.tree_volume.specs.Keeping.{held_now}
use Rattle.tree_volume.proofs.AnewLemmas.{anew_before, anew_open}
use Rattle.tree_volume.proofs.ReopenLemmas.{admitted_then, after_kept, found_anew, keeps_err, keeps_ok, keeps_search, mounted_then, not_rewritten, open_as}
use Rattle.tree_volume.proofs.ReopenLemmas.{begins_kept, begins_then, loses_more, other_answer, reads_then, refusal_then, refused_then, settled_at}
use Rattle.tree_volume.proofs.opening.TreeVolumeBoardVolume.power.Goals as goal

-- ---- no header was found

pub returns-in_err-found-clause-opened : goal.returns-in_err-found-clause-opened
returns-in_err-found-clause-opened g c honest sound =
    let v = g.B.Board.view c.args.self.now.board in
    let w = g.B.Board.view c.mount_after_power.new.board in
    let is : c.from_residual.result ≡ Err c.in_err-found.field-0.0 = search rules in
    let after = c.in_err-found.ensures.again honest volume_form volume_framed volume_format c.args.self.now.large (board_sound volume_form v sound.sound) in
    let again = after.again in
    let hon = (c.in_err-found.ensures.honest honest).1 in
    let run = hon.leaves volume_form volume_format in
    let key = c.in_err-found.ensures.calls.order.key in
    record {
      again = record {
        opened = not_ok c.from_residual.result _ c.from_residual.ensures.0;
        kept = not_ok c.from_residual.result _ c.from_residual.ensures.0;
        writes = c.in_err-found.ensures.writes;
        failed = told_so c.from_residual.result c.in_err-found.field-0.0 (λ why. why ≡ Failed) is again.failed;
        fresh = not_ok c.from_residual.result _ c.from_residual.ensures.0;
        honest = λ is. (
          (c.in_err-found.ensures.honest honest).0,
          λ live. absurd (false≢true (sym live)),
          steady_same volume_form volume_framed v w (form_root c.args.self.now.root) key (c.in_err-found.ensures.settled honest) is.2,
          anew_before v w key run is.3,
        );
        same = λ is. on_err c.from_residual.result _
            (held_steady volume_form volume_framed v w (form_root c.args.self.now.root) c.args.self.now.sequence key (c.in_err-found.ensures.settled honest) is.2);
        leaves = record {
          crash = before_above volume_form (λ x. g.B.Board.view x.board) _ _ key run;
          past = past_above volume_form v w key hon.past;
        };
      };
      chosen = again.chosen;
      among = (again.among.0, inl again.among.1, sym again.among.2);
      ordered = after.ordered;
      opened = not_ok c.from_residual.result _ c.from_residual.ensures.0;
      rests = record { only = rests_above volume_form v.key w again.chosen key after.rests };
    }

pub returns-in_err-found-clause-root : goal.returns-in_err-found-clause-root
returns-in_err-found-clause-root g c = on_err c.from_residual.result _ refl

pub returns-in_err-found-clause-writes : goal.returns-in_err-found-clause-writes
returns-in_err-found-clause-writes g c kept = c.in_err-found.ensures.writes

pub returns-in_err-found-clause-calls : goal.returns-in_err-found-clause-calls
returns-in_err-found-clause-calls g c =
    let is : c.from_residual.result ≡ Err c.in_err-found.field-0.0 = search rules in
    subst (λ ok. LosesPower c.args.pick ok (g.B.Board.view c.args.self.now.board) (g.B.Board.view c.mount_after_power.new.board)) (sym (ap no_failure is)) c.in_err-found.ensures.calls

pub returns-in_err-found-clause-honest : goal.returns-in_err-found-clause-honest
returns-in_err-found-clause-honest g c honest =
    let v = g.B.Board.view c.args.self.now.board in
    let w = g.B.Board.view c.mount_after_power.new.board in
    let is : c.from_residual.result ≡ Err c.in_err-found.field-0.0 = search rules in
    let hon = c.in_err-found.ensures.honest honest in
    let left = hon.1.begins.powered.left in (
      hon.0,
      record {
        begins = begins_kept c.args.pick (shows_kept c.from_residual.result) v w hon.1.begins;
        past = hon.1.past;
        exact = (
          told_so c.from_residual.result c.in_err-found.field-0.0 (λ why. IsRefusal volume_form v left.image left.counter why) is
              (lifted volume_form v.key left.image _ c.in_err-found.field-0.0 (hon.1.ruled volume_form volume_format).0),
          not_ok c.from_residual.result _ c.from_residual.ensures.0,
        );
        holds = λ h held. keeps_search v w left.image left.counter c.from_residual.result _ h c.from_residual.ensures.0 (hon.1.leaves volume_form volume_format);
        counter = not_ok c.from_residual.result _ c.from_residual.ensures.0;
        refusal = told_so c.from_residual.result c.in_err-found.field-0.0 (λ why. IsRefusedNow volume_form w why) is (c.in_err-found.ensures.refusal honest volume_form volume_format);
      },
    )

-- ---- one was, and isn't taken up

pub returns-in_err-opened-clause-root : goal.returns-in_err-opened-clause-root
returns-in_err-opened-clause-root g c = on_err c.from_residual-in_err-opened.result _ refl

pub returns-in_err-opened-clause-writes : goal.returns-in_err-opened-clause-writes
returns-in_err-opened-clause-writes g c kept =
    let e : OpenAnswer = c.in_err-opened.field-0.0 in
    let is : c.from_residual-in_err-opened.result ≡ Err e = search rules in
    c.in_err-opened.ensures.takes.unwritten (other_answer e (ap shows_kept (sym is) ∙ kept)) ∙ c.in_ok-found.ensures.writes

pub returns-in_err-opened-clause-calls : goal.returns-in_err-opened-clause-calls
returns-in_err-opened-clause-calls g c =
    let is : c.from_residual-in_err-opened.result ≡ Err c.in_err-opened.field-0.0 = search rules in
    loses_more c.args.pick (no_failure c.from_residual-in_err-opened.result) _ _ _ c.in_ok-found.ensures.calls (run_as _ _ _ _ (ap no_failure is) c.in_err-opened.ensures.takes.calls)

pub returns-in_err-opened-clause-opened : goal.returns-in_err-opened-clause-opened
returns-in_err-opened-clause-opened g c honest sound =
    let v = g.B.Board.view c.args.self.now.board in
    let w = g.B.Board.view c.mount_after_power.new.board in
    let after = c.in_ok-found.ensures.again honest volume_form volume_framed volume_format c.args.self.now.large (board_sound volume_form v sound.sound) in
    let again = after.again in
    let anew = sound.written again.chosen (again.among.0, inl again.among.1, sym again.among.2) in
    let kept = found_anew v.key w c.in_ok-found.found again.chosen again.mounted anew in
    absurd (c.in_err-opened.ensures.same kept).1

pub returns-in_err-opened-clause-honest : goal.returns-in_err-opened-clause-honest
returns-in_err-opened-clause-honest g c honest =
    let v = g.B.Board.view c.args.self.now.board in
    let w = g.B.Board.view c.mount_after_power.new.board in
    let n = g.B.Board.view c.take_again.new.board in
    let e : OpenAnswer = c.in_err-opened.field-0.0 in
    let is : c.from_residual-in_err-opened.result ≡ Err e = search rules in
    let found = c.in_ok-found.ensures in
    let hon = found.honest honest in
    let power = hon.1 in
    let left = power.begins.powered.left in
    let ruled = power.ruled volume_form volume_format in
    let take = c.in_err-opened.ensures.honest hon.0 in
    let form = c.in_err-opened.ensures.told (g.met.B.Board.honest_reads c.mount_after_power.new.board hon.0) in
    let calls = c.in_err-opened.ensures.takes.calls in
    let order = found.calls.order in
    let fits = (g.met.B.Board.consistent c.take_again.new.board take.0).counter in
    let settled : IsSettledAt (sequence_of c.in_ok-found.found) w.state = settled_at (sequence_of c.in_ok-found.found) w.state power.rests in (
      take.0,
      record {
        begins = begins_then c.args.pick (shows_kept c.from_residual-in_err-opened.result) v w n power.begins calls.ordered take.1.past.behind take.1.alone
            (λ kept. reads_then v w n c.in_ok-found.found order.size order.key calls.size calls.key fits left.image power.reads left.counter
            ruled settled e take.1 (ap shows_kept (sym is) ∙ kept));
        past = followed _ _ _ power.past take.1.past;
        exact = (
          told_so c.from_residual-in_err-opened.result e (λ why. IsRefusal volume_form v left.image left.counter why) is
              (refusal_then v w n c.in_ok-found.found order.size order.key calls.size calls.key fits left.image power.reads left.counter ruled settled e form),
          not_ok c.from_residual-in_err-opened.result _ c.from_residual-in_err-opened.ensures.0,
        );
        holds = λ h held.
            let might : (d : CrashImage) × IsLeft v.state d × (held_of volume_form v.key d ≡ Some h) = (left, power.begins.powered.may, held) in
            let run = power.leaves volume_form volume_format in
            keeps_err v w n c.in_ok-found.found order.key calls.key left.image power.reads left.counter ruled power.rests h held might run
            c.from_residual-in_err-opened.result e _ is
            (c.in_err-opened.ensures.opens hon.0 h
            (mounted_then v w n c.in_ok-found.found order.key calls.key left.image power.reads left.counter ruled power.rests h held might run));
        counter = not_ok c.from_residual-in_err-opened.result _ c.from_residual-in_err-opened.ensures.0;
        refusal = told_so c.from_residual-in_err-opened.result e (λ why. IsRefusedNow volume_form n why) is
            (refused_then v w n c.in_ok-found.found order.size order.key calls.size calls.key fits left.image power.reads left.counter ruled settled (Err e) form take.1);
      },
    )

-- ---- it is taken up

pub returns-clause-calls : goal.returns-clause-calls
returns-clause-calls g c =
    subst (LosesPower c.args.pick true (g.B.Board.view c.args.self.now.board)) (sym (ap g.B.Board.view c.resume.ensures.board))
    (loses_more c.args.pick true _ _ _ c.in_ok-found.ensures.calls c.in_ok-opened.ensures.takes.calls)

pub returns-clause-writes : goal.returns-clause-writes
returns-clause-writes g c kept =
    let is : c.reopened_from.result ≡ reopened_of 2 c.in_ok-found.found = c.reopened_from.ensures in
    let same = (c.in_ok-opened.ensures.same (ap (λ (t : Reopened). t.rewritten) (sym is) ∙ not_rewritten c.reopened_from.result.rewritten kept)).0 in
    ap (λ (x : View). x.writes) (ap g.B.Board.view c.resume.ensures.board ∙ same) ∙ c.in_ok-found.ensures.writes

pub returns-clause-back : goal.returns-clause-back
returns-clause-back g c = record {
  works = c.resume.ensures.works;
  lost = tt;
  sequence = c.resume.ensures.sequence ∙ c.in_ok-opened.ensures.sequence ∙ ap sequence_after (sym c.reopened_from.ensures);
}

pub returns-clause-bare : goal.returns-clause-bare
returns-clause-bare g c = λ image. tt

pub returns-clause-opened : goal.returns-clause-opened
returns-clause-opened g c honest sound =
    let v = g.B.Board.view c.args.self.now.board in
    let w = g.B.Board.view c.mount_after_power.new.board in
    let n = g.B.Board.view c.resume.new.self.board in
    let root : TreeEntry = c.resume.new.self.root in
    let sequence : ℕ = c.resume.new.self.sequence in
    let after = c.in_ok-found.ensures.again honest volume_form volume_framed volume_format c.args.self.now.large (board_sound volume_form v sound.sound) in
    let again = after.again in
    let anew = sound.written again.chosen (again.among.0, inl again.among.1, sym again.among.2) in
    let kept = found_anew v.key w c.in_ok-found.found again.chosen again.mounted anew in
    let stays : n ≡ w = ap g.B.Board.view c.resume.ensures.board ∙ (c.in_ok-opened.ensures.same kept).0 in
    let key = c.in_ok-found.ensures.calls.order.key in
    let mounted = subst (λ (k : List ℕ). MountsTo volume_form k again.chosen w.state c.in_ok-found.found) (sym key) again.mounted in
    let hon = c.in_ok-found.ensures.honest honest in
    let opens = c.in_ok-opened.ensures.opens hon.0 again.chosen mounted in
    let both = open_as (g.B.Board.view c.take_again.new.board) n c.in_ok-opened.opened.root root c.in_ok-opened.opened.sequence sequence again.chosen
    (ap g.B.Board.view c.resume.ensures.board) c.resume.ensures.root c.resume.ensures.sequence
    (opens.opened.0, opens.opened.1 ∙ after_kept c.in_ok-found.found again.chosen kept) in
    let key' : n.key ≡ v.key = ap (λ (x : View). x.key) stays ∙ key in
    let held : Some again.chosen ≡ Some (held_now n root sequence) = ap (λ (h : Held). let o : Option Held = Some h in o) (sym both.1) in
    let run : LeavesOnly moment left_since v n (MightBe volume_form v.key v.state)
    = subst (λ (x : View). LeavesOnly moment left_since v x (MightBe volume_form v.key v.state)) (sym stays) (hon.1.leaves volume_form volume_format) in
    let past : KeepsPast v n = subst (KeepsPast v) (sym stays) hon.1.past in
    let honest' = subst g.B.Board.honest (sym c.resume.ensures.board) (c.in_ok-opened.ensures.honest hon.0).0 in
    let steady = steady_in_use volume_form volume_framed n (form_root root) sequence both.0 in
    let new = anew_open n root sequence both.0 in
    let rests : (d : CrashImage) → IsLeft n.state d → held_of volume_form v.key d ≡ Some again.chosen
    = subst (λ (x : View). (d : CrashImage) → IsLeft x.state d → held_of volume_form v.key d ≡ Some again.chosen) (sym stays) after.rests in
    record {
      again = record {
        opened = (again.among.0, inl again.among.1, sym (again.among.2 ∙ held));
        kept = ap (λ (t : Reopened). t.rewritten) c.reopened_from.ensures ∙ kept;
        writes = ap (λ (x : View). x.writes) stays ∙ c.in_ok-found.ensures.writes;
        failed = tt;
        fresh = (honest', λ live. both.0, steady, new);
        honest = λ is. (honest', λ live. both.0, steady, new);
        same = λ is. tt;
        leaves = record {
          crash = before_above volume_form (λ x. g.B.Board.view x.board) _ _ key' run;
          past = past_above volume_form v n key' past;
        };
      };
      chosen = again.chosen;
      among = (again.among.0, inl again.among.1, sym again.among.2);
      ordered = subst (λ (x : View). LeftByOrder volume_form v x again.chosen) (sym stays) after.ordered;
      opened = both.1;
      rests = record { only = rests_above volume_form v.key n again.chosen key' rests };
    }

pub returns-clause-honest : goal.returns-clause-honest
returns-clause-honest g c honest =
    let v = g.B.Board.view c.args.self.now.board in
    let w = g.B.Board.view c.mount_after_power.new.board in
    let n = g.B.Board.view c.take_again.new.board in
    let m = g.B.Board.view c.resume.new.self.board in
    let stays : m ≡ n = ap g.B.Board.view c.resume.ensures.board in
    let is : c.reopened_from.result ≡ reopened_of 2 c.in_ok-found.found = c.reopened_from.ensures in
    let found = c.in_ok-found.ensures in
    let hon = found.honest honest in
    let power = hon.1 in
    let left = power.begins.powered.left in
    let ruled = power.ruled volume_form volume_format in
    let take = c.in_ok-opened.ensures.honest hon.0 in
    let form = c.in_ok-opened.ensures.told (g.met.B.Board.honest_reads c.mount_after_power.new.board hon.0) in
    let calls = c.in_ok-opened.ensures.takes.calls in
    let order = found.calls.order in
    let fits = (g.met.B.Board.consistent c.take_again.new.board take.0).counter in
    let now : Held = held_now m c.resume.new.self.root c.resume.new.self.sequence in
    let settled : IsSettledAt (sequence_of c.in_ok-found.found) w.state = settled_at (sequence_of c.in_ok-found.found) w.state power.rests in
    let begins : PowerFirst c.args.pick (shows_kept (Ok c.reopened_from.result)) (λ (k : ℕ). (3 < k) × (k < 8742)) v n
    = begins_then c.args.pick (shows_kept (Ok c.reopened_from.result)) v w n power.begins calls.ordered take.1.past.behind take.1.alone
    (λ kept. ap (λ (x : View). x.state.reads) (c.in_ok-opened.ensures.same (ap (λ (t : Reopened). t.rewritten) (sym is) ∙ not_rewritten c.reopened_from.result.rewritten kept)).0) in (
      subst g.B.Board.honest (sym c.resume.ensures.board) take.0,
      subst
          (LosesPowerByRule volume_form (λ (k : ℕ). (3 < k) × (k < 8742)) c.args.pick (shows_kept (Ok c.reopened_from.result)) (Ok c.reopened_from.result)
          (λ told. IsReopened volume_form told (form_root c.resume.new.self.root)) now v)
          (sym stays) (record {
            begins = begins;
            past = followed _ _ _ power.past take.1.past;
            exact = (
              tt,
              subst (λ (r : TreeEntry). IsAdmittedTo volume_form v left.image left.counter (IsReopened volume_form c.reopened_from.result (form_root r))) (sym c.resume.ensures.root)
                  (admitted_then v w n c.in_ok-found.found order.size order.key calls.size calls.key fits left.image power.reads left.counter
                  ruled settled c.in_ok-opened.opened c.reopened_from.result is c.in_ok-opened.ensures.sequence c.in_ok-opened.ensures.taken form),
            );
            holds = λ h held.
                let might : (d : CrashImage) × IsLeft v.state d × (held_of volume_form v.key d ≡ Some h) = (left, power.begins.powered.may, held) in
                let run = power.leaves volume_form volume_format in
                let same : now ≡ held_now n c.in_ok-opened.opened.root c.in_ok-opened.opened.sequence
                = λ i. held_now (stays i) (c.resume.ensures.root i) (c.resume.ensures.sequence i) in
                keeps_ok v w n c.in_ok-found.found order.key calls.key left.image power.reads left.counter ruled power.rests h held might run
                c.reopened_from.result c.in_ok-opened.opened now same
                (c.in_ok-opened.ensures.opens hon.0 h
                (mounted_then v w n c.in_ok-found.found order.key calls.key left.image power.reads left.counter ruled power.rests h held might run));
            counter = subst (λ (s : ℕ). IsSettledAt s n.state) (sym c.resume.ensures.sequence) (take.1.counter settled);
            refusal = tt;
          }),
    )
