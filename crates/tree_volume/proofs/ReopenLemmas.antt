-- What the reopening of a volume leaves, and a loss of power, over what a search found.
use Rattle.std.proofs.Common.{◌≡◌, ◌≢◌, ◌≤◌, ◌<◌, ◌^◌, ◌⊎◌, ◌==◌, ◌∙◌, not, nat_lt, if◌then◌else◌, ℕ, Bool, true, false, List}
use Rattle.std.proofs.Common.{Option, Some, None, Result, Ok, Err, IfErr, refl, sym, ap, subst, inl, inr, ⊎_elim, arith}
use Rattle.std.specs.Result.{IsErr}
use Rattle.std.proofs.lemmas.Bool.{false≢true}
use Rattle.tee_base.specs.Crash.{LeavesOnly}
use Rattle.tee_base.proofs.Crash.{joined, weaker}
use Rattle.store_api.specs.Volumes.{Held}
use Rattle.board.specs.Moment.{CrashImage, IsBehind, IsLeft, Moment, View, left_since, moment}
use Rattle.board.specs.Runs.{Rests}
use Rattle.epoch.specs.Alone.{LeavesAlone}
use Rattle.epoch.specs.Finding.{IsSettledAt, sequence_of}
use Rattle.epoch.specs.Forms.{Form, held_in, held_of}
use Rattle.epoch.specs.Mounting.{MountsTo, after_again, after_version}
use Rattle.tee_base.specs.Faults.{Rose}
use Rattle.board.specs.Steps.{CallRun}
use Rattle.epoch.specs.Mounts.{IsAdmittedTo, IsKeptFromOpening, IsRefusal, IsRefusedNow, IsReopened, IsReopenedTo, IsRuledBy, KeepsFound, LeftByReopening, LosesPower, MightBe}
use Rattle.epoch.specs.Mounts.{PowerFirst, TakesUp, refusal_of}
use Rattle.epoch.specs.Opening.{header_answer, is_no_failure, opening_of, opens_as}
use Rattle.epoch.specs.Reopening.{reopened_of, sequence_after}
use Rattle.epoch.specs.declared.answer.OpenAnswer.{OpenAnswer}
use Rattle.epoch.specs.declared.answer.OpenAnswer.TheVariants.{Failed, TooSmall}
use Rattle.epoch.specs.declared.header.Header.{Header}
use Rattle.epoch.specs.declared.rule.Found.{Found}
use Rattle.epoch.specs.declared.taking.Reopened.{Reopened}
use Rattle.epoch.proofs.AdmitLemmas.{kept_now}
use Rattle.epoch.proofs.AloneLemmas.{alone_fewer, alone_more}
use Rattle.epoch.proofs.MountLemmas.{mounted_again, mounted_left, remakes_found}
use Rattle.epoch.proofs.OpenLemmas.{not_ok}
use Rattle.epoch.proofs.PastLemmas.{behind_more}
use Rattle.tree_paths.specs.Form.{form_root}
use Rattle.v1_volume.specs.Versions.{volume_form}
use Rattle.v1_volume.specs.Frame.{volume_framed}
use Rattle.epoch.specs.declared.header.TreeEntry.{TreeEntry}
use Rattle.tree_volume.specs.Keeping.{IsOpen, held_now}
use Rattle.tree_volume.specs.Opens.{Opens}
use Rattle.tree_volume.specs.Taking.{TakesByForm, TakesHonestly}
use Rattle.tree_volume.specs.declared.volume.Opened.{Opened}
use Rattle.tree_volume.proofs.TakeLemmas.{exact_found, refused_now}

-- an answer that isn't Failed, by its test
pub other_answer : (why : OpenAnswer) → is_no_failure why ≡ true → why ≢ Failed
other_answer why made is = false≢true (ap is_no_failure (sym is) ∙ made)

pub not_rewritten : (b : Bool) → not b ≡ true → b ≡ false
not_rewritten true e = absurd (false≢true e)
not_rewritten false e = refl

module _ (v w n : View) (found : Option Header) (size : w.size ≡ v.size) (key : w.key ≡ v.key) (size' : n.size ≡ w.size) (key' : n.key ≡ w.key) (fits : n.state.counter < 2 ^ 64)
    (image : ℕ → List ℕ) (reads : w.state.reads ≡ image) (counter : ℕ) (ruled : IsRuledBy volume_form v image counter (Ok found)) (settled : IsSettledAt (sequence_of found) w.state) where
  -- a refusal is of the board as it is then
  refused_err : (why : OpenAnswer) → TakesByForm found (Err why) w n → TakesHonestly found (Err why) w n → IsRefusedNow volume_form n why
  refused_err why form honest =
      ⊎_elim
      (λ (kept : IsKeptFromOpening why). kept_now volume_form n why kept)
      (λ (both : (refusal_of volume_form w.key w.state.reads found ≡ Some why) × (n.state.reads ≡ w.state.reads)).
      ⊎_elim
      (λ (kept : IsKeptFromOpening why). kept_now volume_form n why kept)
      (λ (still : IsSettledAt (sequence_of found) n.state).
      refused_now v n (size' ∙ size) (key' ∙ key) fits counter found why image (both.1 ∙ reads) ruled.1
      (ap (λ (k : List ℕ). refusal_of volume_form k image found) (sym key) ∙ ap (λ (g : ℕ → List ℕ). refusal_of volume_form w.key g found) (sym reads) ∙ both.0) still)
      (honest.still settled))
      form.refused

  pub refused_then : (result : Result Opened OpenAnswer) → TakesByForm found result w n → TakesHonestly found result w n → IfErr result (λ why. IsRefusedNow volume_form n why)
  refused_then (Ok o) form honest = tt
  refused_then (Err why) form honest = refused_err why form honest

  -- what an Ok tells is by the rule
  pub admitted_then : (o : Opened) (told : Reopened) → told ≡ reopened_of 2 found → o.sequence ≡ sequence_after (reopened_of 2 found)
      → TakesUp volume_form found 0 o.sequence (form_root o.root) → TakesByForm found (Ok o) w n
      → IsAdmittedTo volume_form v image counter (IsReopened volume_form told (form_root o.root))
  admitted_then o told is sequence takes form =
      let so : sequence_after told ≡ o.sequence = ap sequence_after is ∙ sym sequence in
      (exact_found v w n counter found key image reads (λ (x : Opened) (header : Option Header). IsReopened volume_form told (form_root x.root) header) (Ok o) ruled form
      (is, subst (λ (s : ℕ). TakesUp volume_form found 0 s (form_root o.root)) (sym so) takes)).1

  pub refusal_then : (why : OpenAnswer) → TakesByForm found (Err why) w n → IsRefusal volume_form v image counter why
  refusal_then why form = (exact_found v w n counter found key image reads (λ (x : Opened) (header : Option Header). Unit {0}) (Err why) ruled form tt).0

  pub reads_then : (why : OpenAnswer) → TakesHonestly found (Err why) w n → is_no_failure why ≡ true → n.state.reads ≡ w.state.reads
  reads_then why honest made = (honest.unchanged (other_answer why made)).reads

-- a volume that is found among what was left before is of the version that is written
pub found_anew : (key : List ℕ) (view : View) (found : Option Header) (chosen : Held) → MountsTo volume_form key chosen view.state found → chosen.version ≡ 2
    → (reopened_of 2 found).rewritten ≡ false
found_anew key view None chosen mounts anew = refl
found_anew key view (Some header) chosen mounts anew = ap (λ (n : ℕ). not (n == 2)) (sym mounts.1.version ∙ anew)

-- the blocks that a volume never writes
pub alone_then : (v w n : View) → LeavesAlone (λ k. Unit {0}) v w → LeavesAlone (λ k. (3 < k) × (k < 8742)) w n → LeavesAlone (λ k. (3 < k) × (k < 8742)) v n
alone_then v w n one two =
    alone_more (λ (k : ℕ). (3 < k) × (k < 8742)) _ _ _ (alone_fewer (λ (k : ℕ). Unit {0}) (λ (k : ℕ). (3 < k) × (k < 8742)) _ _ (λ k is. tt) one) two

-- a board that rests is settled
pub settled_at : (n : ℕ) (m : Moment) → Rests n m → IsSettledAt n m
settled_at n m rests = record { counter = rests.counter; slack = rests.slack }

-- a header that isn't rewritten is of the version that is written
pub written_so : (v : ℕ) → not (v == 2) ≡ false → (v == 2) ≡ true
written_so v kept = by_bool (v == 2) kept
  where
    by_bool : (b : Bool) → not b ≡ false → b ≡ true
    by_bool true e = refl
    by_bool false e = absurd (false≢true (sym e))

-- so what is held stays
pub after_kept : (found : Option Header) (h : Held) → (reopened_of 2 found).rewritten ≡ false → after_again volume_form found h ≡ h
after_kept None h kept = refl
after_kept (Some header) h kept = ap (λ (b : Bool). after_version volume_form b h) (written_so header.version kept)

-- what is open on a board is open on the same board
pub open_as : (w m : View) (r r' : TreeEntry) (s s' : ℕ) (h : Held) → m ≡ w → r' ≡ r → s' ≡ s → IsOpen w r s × (held_now w r s ≡ h) → IsOpen m r' s' × (held_now m r' s' ≡ h)
open_as w m r r' s s' h board root sequence both =
    subst (λ (x : View). IsOpen x r' s' × (held_now x r' s' ≡ h)) (sym board)
    (subst (λ (x : TreeEntry). IsOpen w x s' × (held_now w x s' ≡ h)) (sym root) (subst (λ (x : ℕ). IsOpen w r x × (held_now w r x ≡ h)) (sym sequence) both))

-- ---- what an image that was found holds is kept

-- a search that came to no header leaves what might have been left before
pub keeps_search : {A : Type 0} (v w : View) (image : ℕ → List ℕ) (counter : ℕ) (result : Result A OpenAnswer) (now h : Held) → IsErr result
    → LeavesOnly moment left_since v w (MightBe volume_form v.key v.state) → KeepsFound volume_form image counter result now v w h
keeps_search v w image counter result now h fails run = record {
  made = not_ok result _ fails;
  rests = not_ok result _ fails;
  leaves = weaker moment left_since v w (MightBe volume_form v.key v.state) (LeftByReopening volume_form v image counter h) (λ c is. inl is) run;
}

-- what counts on a board that is large enough
opening_found : (f : Form) (size : ℕ) (key : List ℕ) (image : ℕ → List ℕ) (n : ℕ) (found : Option Header) → header_answer (opens_as f.known f.blocks size key image n) ≡ Ok found
    → header_answer (opening_of f.known key image n) ≡ Ok found
opening_found f size key image n found e =
    elim (nat_lt size f.blocks) as (λ b.
    header_answer (let small : Result (Option Found) OpenAnswer = Err (TooSmall size) in if b then small else opening_of f.known key image n) ≡ Ok found
    → header_answer (opening_of f.known key image n) ≡ Ok found) [
      | true ↦ λ e. absurd (cc)
      | false ↦ λ e. e
    ] e

module _ (v w n : View) (found : Option Header) (key : w.key ≡ v.key) (key' : n.key ≡ w.key) (image : ℕ → List ℕ) (reads : w.state.reads ≡ image) (counter : ℕ)
    (ruled : IsRuledBy volume_form v image counter (Ok found)) (rests : Rests (sequence_of found) w.state) (h : Held) (holds : held_in volume_form v.key image counter ≡ Some h)
    (might : (d : CrashImage) × IsLeft v.state d × (held_of volume_form v.key d ≡ Some h)) (run : LeavesOnly moment left_since v w (MightBe volume_form v.key v.state)) where
  abbrev after : Held
  after = after_again volume_form found h

  answers : header_answer (opening_of volume_form.known v.key image counter) ≡ Ok found
  answers = opening_found volume_form v.size v.key image counter found ruled.1

  remade : IsReopenedTo volume_form v.key image counter h after
  remade = remakes_found volume_form (opening_of volume_form.known v.key image counter) found h answers

  pub mounted_then : MountsTo volume_form w.key h w.state found
  mounted_then = mounted_again volume_form volume_framed w.key h w.state found counter rests (rw (key, reads) holds) (rw (key, reads) answers)

  leaves_then : (result : Result Opened OpenAnswer) → Opens h after result w n → LeavesOnly moment left_since v n (LeftByReopening volume_form v image counter h)
  leaves_then result opens =
      let back : (c : CrashImage) → held_of volume_form v.key c ≡ held_of volume_form w.key c = λ c. ap (λ (k : List ℕ). held_of volume_form k c) (sym key) in
      joined moment left_since v w n (LeftByReopening volume_form v image counter h)
      (weaker moment left_since v w (MightBe volume_form v.key v.state) (LeftByReopening volume_form v image counter h) (λ c is. inl is) run)
      (weaker moment left_since w n (λ c. (held_of volume_form w.key c ≡ Some h) ⊎ (held_of volume_form w.key c ≡ Some after)) (LeftByReopening volume_form v image counter h)
      (λ c is.
      ⊎_elim
      (λ (e : held_of volume_form w.key c ≡ Some h). inl (might.0, might.1, back c ∙ e ∙ sym might.2))
      (λ (e : held_of volume_form w.key c ≡ Some after). inr (after, back c ∙ e, remade))
      is) opens.leaves)

  -- it wasn't taken up
  pub keeps_err : {A : Type 0} (result : Result A OpenAnswer) (why : OpenAnswer) (now : Held) → result ≡ Err why → Opens h after (Err why) w n
      → KeepsFound volume_form image counter result now v n h
  keeps_err result why now is opens =
      subst (λ (r : Result _ OpenAnswer). KeepsFound volume_form image counter r now v n h) (sym is)
      (record { made = tt; rests = tt; leaves = leaves_then (Err why) opens })

  -- or it was
  pub keeps_ok : {A : Type 0} (told : A) (o : Opened) (now : Held) → now ≡ held_now n o.root o.sequence → Opens h after (Ok o) w n
      → KeepsFound volume_form image counter (Ok told) now v n h
  keeps_ok told o now is opens = record {
    made = subst (IsReopenedTo volume_form v.key image counter h) (sym (is ∙ opens.opened.1)) remade;
    rests = λ c left.
        ap (λ (k : List ℕ). held_of volume_form k c) (sym (key' ∙ key))
        ∙ mounted_left volume_form volume_framed (form_root o.root) (held_now n o.root o.sequence) n opens.opened.0 c left ∙ ap (λ (x : Held). let some : Option Held = Some x in some) (sym is);
    leaves = leaves_then (Ok o) opens;
  }

-- ---- a loss of power, and calls behind the search

le_then : (a b c : ℕ) → a ≤ b → b ≤ c → a ≤ c
le_then a b c one two = omega (arith, one, two)

abbrev pub begins_kept : (pick : ℕ) (kept : Bool) (v w : View) → PowerFirst pick true (λ k. Unit {0}) v w → PowerFirst pick kept (λ k. (3 < k) × (k < 8742)) v w
begins_kept pick kept v w first = record {
  between = first.between;
  ordered = first.ordered;
  time = first.time;
  powered = first.powered;
  alone = alone_fewer (λ (k : ℕ). Unit {0}) (λ (k : ℕ). (3 < k) × (k < 8742)) _ _ (λ k is. tt) first.alone;
  reads = λ said. first.reads refl;
  behind = first.behind;
}

abbrev pub begins_then : (pick : ℕ) (kept : Bool) (v w n : View) → PowerFirst pick true (λ k. Unit {0}) v w → n.ordered ≡ w.ordered → IsBehind w n
    → LeavesAlone (λ k. (3 < k) × (k < 8742)) w n → (kept ≡ true → n.state.reads ≡ w.state.reads) → PowerFirst pick kept (λ k. (3 < k) × (k < 8742)) v n
begins_then pick kept v w n first ordered behind alone reads = record {
  between = first.between;
  ordered = ordered ∙ first.ordered;
  time = first.time;
  powered = first.powered;
  alone = alone_then first.between w n first.alone alone;
  reads = λ said. reads said ∙ first.reads refl;
  behind = behind_more first.between w n first.behind behind;
}

pub loses_more : (pick : ℕ) (ok : Bool) (v w n : View) → LosesPower pick true v w → CallRun ok w n → LosesPower pick ok v n
loses_more pick ok v w n power calls = record {
  order = record {
    size = calls.size ∙ power.order.size;
    key = calls.key ∙ power.order.key;
    orders = calls.orders ∙ power.order.orders;
    after = power.order.after;
    ordered = calls.ordered ∙ power.order.ordered;
    counted = power.order.counted;
    steady = power.order.steady;
    later = le_then power.order.after.faults w.state.faults n.state.faults power.order.later calls.faults;
  };
  cause = λ failed. subst (λ (f : ℕ). Rose f n.state.faults) (power.steady refl) (calls.cause failed);
  steady = λ made. calls.steady made ∙ power.steady refl;
  fuse = calls.unset power.fuse;
}
