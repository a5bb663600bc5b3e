-- What is made of the header that was found, by the rule and by the form.
use Rattle.std.proofs.Common.{◌≡◌, ◌<◌, ◌^◌, ◌==◌, ◌⊎◌, ◌∙◌, if◌then◌else◌, nat_lt, ℕ, Bool, true, false, List}
use Rattle.std.proofs.Common.{Option, Some, None, Result, Ok, Err, IfErr, IfOk, refl, sym, ap, subst, inl, inr, ⊎_elim, arith}
use Rattle.board.specs.Moment.{IsCounter, Moment, View}
use Rattle.board.specs.Steps.{Unchanged}
use Rattle.epoch.specs.Finding.{IsSettledAt, sequence_of}
use Rattle.epoch.specs.Mounts.{IsAdmittedTo, IsFound, IsKeptFromOpening, IsRefusal, IsRefusalOver, IsRefusedNow, IsRuledBy, RefusesBy, TakesUp}
use Rattle.epoch.specs.Mounts.{admission, refusal_of}
use Rattle.epoch.specs.Opening.{header_answer, is_no_failure, opening_of, opens_as}
use Rattle.epoch.specs.declared.answer.OpenAnswer.{OpenAnswer}
use Rattle.epoch.specs.declared.answer.OpenAnswer.TheVariants.{Failed, TooSmall}
use Rattle.epoch.specs.declared.header.Header.{Header}
use Rattle.epoch.specs.declared.header.TreeEntry.{TreeEntry}
use Rattle.epoch.specs.declared.rule.Found.{Found}
use Rattle.epoch.proofs.AdmitLemmas.{found_by_rule, now_refused, refused_over}
use Rattle.epoch.proofs.OpenLemmas.{refused_or_kept, ruled_found}
use Rattle.epoch.proofs.RuleLemmas.{opens_at_two}
use Rattle.tree_paths.specs.Form.{form_root}
use Rattle.v1_volume.specs.Answers.{is_of_image, no_fault, open_answer}
use Rattle.v1_volume.specs.Versions.{volume_form}
use Rattle.v1_volume.specs.declared.answer.OldAnswer.{OldAnswer}
use Rattle.v1_volume.specs.declared.answer.OldAnswer.TheVariants as old
use Rattle.tree_volume.specs.Taking.{TakesByForm}
use Rattle.tree_volume.specs.declared.volume.Opened.{Opened}

-- ---- an answer of a migration, told of the opening

pub told_failure : (why : OldAnswer) → is_no_failure (open_answer why) ≡ no_fault {A = TreeEntry} (Err why)
told_failure old.Failed = refl
told_failure old.NoMemory = refl
told_failure (old.Mismatch tags) = refl
told_failure (old.Garbled region leaf) = refl

pub failed_old : (why : OldAnswer) → open_answer why ≡ Failed → why ≡ old.Failed
failed_old old.Failed e = refl
failed_old old.NoMemory e = absurd (cc)
failed_old (old.Mismatch tags) e = absurd (cc)
failed_old (old.Garbled region leaf) e = absurd (cc)

-- it is of what was read, or it isn't by the image at all
pub told_image : (why : OldAnswer) (A B : Type 0) → IsKeptFromOpening (open_answer why) ⊎ A → (is_of_image why ≡ true → B) → IsKeptFromOpening (open_answer why) ⊎ (A × B)
told_image old.Failed A B is still = inl (inl refl)
told_image old.NoMemory A B is still = inl (inr refl)
told_image (old.Mismatch tags) A B is still = ⊎_elim (λ (kept : IsKeptFromOpening (open_answer (old.Mismatch tags))). inl kept) (λ (a : A). inr (a, still refl)) is
told_image (old.Garbled region leaf) A B is still =
    ⊎_elim (λ (kept : IsKeptFromOpening (open_answer (old.Garbled region leaf))). inl kept) (λ (a : A). inr (a, still refl)) is

pub told_still : (why : OldAnswer) (B : Type 0) → (is_of_image why ≡ true → B) → IsKeptFromOpening (open_answer why) ⊎ B
told_still old.Failed B still = inl (inl refl)
told_still old.NoMemory B still = inl (inr refl)
told_still (old.Mismatch tags) B still = inr (still refl)
told_still (old.Garbled region leaf) B still = inr (still refl)

pub settled_still : (n : ℕ) (a b : Moment) → IsSettledAt n a → Unchanged a b → IsSettledAt n b
settled_still n a b settled same = record { counter = same.counter ∙ settled.counter; slack = same.slack ∙ settled.slack }

-- ---- what holds of each result

pub all_ok : {A : Type 0} (result : Result A OpenAnswer) (P : Type 0) → P → IfOk result (λ done. P)
all_ok (Ok done) P is = is
all_ok (Err why) P is = tt

pub err_weaker : {A : Type 0} (result : Result A OpenAnswer) (P Q : OpenAnswer → Type 0) → ((why : OpenAnswer) → P why → Q why) → IfErr result P → IfErr result Q
err_weaker (Ok done) P Q goes is = tt
err_weaker (Err why) P Q goes is = goes why is

pub ok_weaker : {A : Type 0} (result : Result A OpenAnswer) (P Q : A → Type 0) → ((o : A) → P o → Q o) → IfOk result P → IfOk result Q
ok_weaker (Ok done) P Q goes is = goes done is
ok_weaker (Err why) P Q goes is = tt

-- ---- by the rule, over what was found before it was taken up

module _ (v mid new : View) (n : ℕ) (found : Option Header) (key : mid.key ≡ v.key) where
  refusal_key : (image : ℕ → List ℕ) → refusal_of volume_form v.key image found ≡ refusal_of volume_form mid.key image found
  refusal_key image = ap (λ (k : List ℕ). refusal_of volume_form k image found) (sym key)

  pub rule_found : (blank : ℕ) (result : Result Opened OpenAnswer) → IsRuledBy volume_form v v.state.reads n (Ok found) → TakesByForm found result mid new
      → IfOk result (λ o. TakesUp volume_form found blank o.sequence (form_root o.root))
      → IfErr result (λ why. IsRefusalOver volume_form v new.state.reads n why)
      × IfOk result (λ o. IsFound volume_form v v.state.reads n blank o.sequence (form_root o.root))
  rule_found blank (Ok o) ruled form takes = (tt, found_by_rule volume_form v v.state.reads n blank o.sequence (form_root o.root) found ruled.1 takes)
  rule_found blank (Err why) ruled form takes = (
    refused_or_kept volume_form v v.state.reads new.state.reads n found why ruled
        (⊎_elim
        (λ (kept : IsKeptFromOpening why). inl kept)
        (λ (both : (refusal_of volume_form mid.key mid.state.reads found ≡ Some why) × (new.state.reads ≡ mid.state.reads)).
        inr (refusal_key new.state.reads ∙ ap (λ (g : ℕ → List ℕ). refusal_of volume_form mid.key g found) both.1 ∙ both.0))
        form.refused),
    tt,
  )

  module _ (image : ℕ → List ℕ) (same : mid.state.reads ≡ image) where
    refusal_same : refusal_of volume_form v.key image found ≡ refusal_of volume_form mid.key mid.state.reads found
    refusal_same = refusal_key image ∙ ap (λ (g : ℕ → List ℕ). refusal_of volume_form mid.key g found) (sym same)

    refused_same : (result : Result Opened OpenAnswer) → TakesByForm found result mid new
        → IfErr result (λ why. IsKeptFromOpening why ⊎ (refusal_of volume_form v.key image found ≡ Some why))
    refused_same (Ok o) form = tt
    refused_same (Err why) form =
        ⊎_elim
        (λ (kept : IsKeptFromOpening why). inl kept)
        (λ (both : (refusal_of volume_form mid.key mid.state.reads found ≡ Some why) × (new.state.reads ≡ mid.state.reads)). inr (refusal_same ∙ both.0))
        form.refused

    taken_same : (result : Result Opened OpenAnswer) → TakesByForm found result mid new → IfOk result (λ o. refusal_of volume_form v.key image found ≡ None)
    taken_same (Ok o) form = refusal_same ∙ form.taken
    taken_same (Err why) form = tt

    pub exact_found : (Takes : Opened → Option Header → Type 0) (result : Result Opened OpenAnswer) → IsRuledBy volume_form v image n (Ok found) → TakesByForm found result mid new
        → IfOk result (λ o. Takes o found)
        → IfErr result (λ why. IsRefusal volume_form v image n why) × IfOk result (λ o. IsAdmittedTo volume_form v image n (Takes o))
    exact_found Takes result ruled form takes =
        ruled_found volume_form v image n found Takes result ruled (refused_same result form) (taken_same result form) takes

-- ---- a refusal of the image is of the board as it is then

-- a header that counts at some counter counts at its sequence
opens_settled : (knows : ℕ → Bool) (blocks size : ℕ) (key : List ℕ) (image : ℕ → List ℕ) (n : ℕ) (w : Found) → opens_as knows blocks size key image n ≡ Ok (Some w)
    → opens_as knows blocks size key image w.header.sequence ≡ Ok (Some w)
opens_settled knows blocks size key image n w opens =
    elim (nat_lt size blocks) as (λ b.
    (let small : Result (Option Found) OpenAnswer = Err (TooSmall size) in if b then small else opening_of knows key image n) ≡ Ok (Some w)
    → (let small : Result (Option Found) OpenAnswer = Err (TooSmall size) in if b then small else opening_of knows key image w.header.sequence) ≡ Ok (Some w)) [
      | true ↦ λ e. absurd (cc)
      | false ↦ λ e. (opens_at_two knows key image n w e).2 w.header.sequence (omega arith) (omega arith)
    ] opens

found_settled : (v : View) (image : ℕ → List ℕ) (n : ℕ) (header : Header) (rule : Result (Option Found) OpenAnswer)
    → opens_as volume_form.known volume_form.blocks v.size v.key image n ≡ rule → header_answer rule ≡ Ok (Some header)
    → header_answer (opens_as volume_form.known volume_form.blocks v.size v.key image header.sequence) ≡ Ok (Some header)
found_settled v image n header (Ok None) e answers = absurd (cc)
found_settled v image n header (Ok (Some w)) e answers =
    let same : w.header ≡ header = cc in
    let at = opens_settled volume_form.known volume_form.blocks v.size v.key image n w e in
    ap (λ (s : ℕ). header_answer (opens_as volume_form.known volume_form.blocks v.size v.key image s)) (sym (ap (λ (h : Header). h.sequence) same)) ∙ ap header_answer at ∙ answers
found_settled v image n header (Err why) e answers = absurd (cc)

module _ (v new : View) (size : new.size ≡ v.size) (key : new.key ≡ v.key) (fits : new.state.counter < 2 ^ 64) where
  settled_counter : (n : ℕ) → IsSettledAt n new.state → IsCounter new.state n
  settled_counter n settled =
      let at = settled.counter in
      record { least = omega (arith, at); greatest = omega (arith, at); fits = omega (arith, at, fits) }

  pub refused_now : (n : ℕ) (found : Option Header) (why : OpenAnswer) (image : ℕ → List ℕ) → new.state.reads ≡ image
      → header_answer (opens_as volume_form.known volume_form.blocks v.size v.key image n) ≡ Ok found
      → refusal_of volume_form v.key image found ≡ Some why → IsSettledAt (sequence_of found) new.state → IsRefusedNow volume_form new why
  refused_now n None why image reads answers some settled = absurd (cc)
  refused_now n (Some header) why image reads answers some settled =
      let at = found_settled v image n header (opens_as volume_form.known volume_form.blocks v.size v.key image n) refl answers in
      let over : RefusesBy (admission volume_form v image header.sequence) why = refused_over volume_form v image image header.sequence (Some header) why at some in
      now_so why header.sequence (settled_counter header.sequence settled)
      (subst (λ (rule : Result (Option Found) OpenAnswer). RefusesBy rule why) (sym (same_admission image header.sequence reads)) over)
    where
      same_admission : (image : ℕ → List ℕ) (s : ℕ) → new.state.reads ≡ image → admission volume_form new new.state.reads s ≡ admission volume_form v image s
      same_admission image s reads = rw (size, key, reads) refl

      now_so : (why : OpenAnswer) (s : ℕ) → IsCounter new.state s → IsRefusal volume_form new new.state.reads s why → IsRefusedNow volume_form new why
      now_so why s among refusal = now_refused volume_form new new refl refl refl s why (λ other. among) refusal

-- ---- versions by their tests

pub is_two : (v : ℕ) → v ≡ 2 → (v == 2) ≡ true
is_two v same = ap (λ (n : ℕ). n == 2) same

pub not_two : (v : ℕ) → (v ≡ 2 → ⊥) → (v == 2) ≡ false
not_two v ne = grind arith
