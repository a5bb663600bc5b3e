-- One call of the store after another: two reads make one, and what comes after a read is as if nothing came before it.
use Rattle.std.proofs.Common.{ℕ, ◌≡◌, ◌+◌, ◌≤◌, ◌<◌, List, inl, inr, ⊎_elim, Bool, true, false, Option, None, Some, IfOk, Result, Ok, Err, refl, sym, ap, subst, ◌∙◌, arith}
use Rattle.std.proofs.lemmas.Bool.{both_ways}
use Rattle.tee_base.specs.Crash.{LeavesOnly}
use Rattle.tee_base.specs.Faults.{Rose}
use Rattle.tee_base.proofs.Crash.{joined, weaker}
use Rattle.store_api.specs.declared.answer.StoreAnswer.{StoreAnswer}
use Rattle.store_api.specs.declared.answer.StoreAnswer.TheVariants as stores
use Rattle.store_api.specs.declared.object.Object.{Object}
use Rattle.store_api.specs.Keeping.{Answers, Cause, Contents, CrashLeaves, HasCause, IsCall, KeepsPast, Keeper, LeavesJust, Reads, Remains, Status, TellsDamage, damage_in, UnlessFailed}
use Rattle.store_api.specs.declared.object.Facts.{Facts}
use Rattle.store_api.specs.Limits.{AreFacts, IsSecret, IsWithinLimits}
use Rattle.store_api.specs.Stores.{Store, facts_of, found, object_at, secret_at, with_object}
use Rattle.transient_obj.specs.declared.object_key.ObjectKey.{ObjectKey}
use Rattle.object_asks.specs.Sources.{IsObjectKey, stored_key}
use Rattle.object_asks.specs.declared.turn.TurnKind.{TurnKind}
use Rattle.object_asks.specs.declared.outcome.Outcome.{Outcome as Result_of}
use Rattle.object_asks.specs.declared.outcome.Outcome.TheVariants as outcomes
use Rattle.object_asks.specs.Resolutions.{Objects, Outcome}
use Rattle.object_asks.specs.Held.{Held}
use Rattle.object_asks.specs.Serving.{CrashTurns, EndsUnchanged, Gives, IsGiven, IsKept, LeftByTurn, StaysBeside, TriesOnce, UnlessAnswered, kind_by, left_by, objects_in}
use Rattle.object_asks.proofs.Crashes.{only_old}

-- ---- what doesn't rest on the type of an answer's value

pub cause_of : (A B : Type 0) (e : StoreAnswer) (s t : Status) → Cause {A = A} (Err e) s t → Cause {A = B} (Err e) s t
cause_of A B stores.NotFound s t met = met
cause_of A B stores.Exists s t met = met
cause_of A B stores.NoSpace s t met = met
cause_of A B stores.Lost s t met = met
cause_of A B stores.Failed s t met = met
cause_of A B (stores.Corrupt tags) s t met = met
cause_of A B (stores.Garbled leaf) s t met = met
cause_of A B stores.NoMemory s t met = met

pub unfailed_of : (A B : Type 0) (e : StoreAnswer) (fact : Type 0) → UnlessFailed {A = A} (Err e) fact → UnlessFailed {A = B} (Err e) fact
unfailed_of A B stores.NotFound fact met = met
unfailed_of A B stores.Exists fact met = met
unfailed_of A B stores.NoSpace fact met = met
unfailed_of A B stores.Lost fact met = met
unfailed_of A B stores.Failed fact met = tt
unfailed_of A B (stores.Corrupt tags) fact met = met
unfailed_of A B (stores.Garbled leaf) fact met = met
unfailed_of A B stores.NoMemory fact met = met

pub damage_of : (A B : Type 0) (e : StoreAnswer) (P : StoreAnswer → Type 0) → TellsDamage {A = A} (Err e) P → TellsDamage {A = B} (Err e) P
damage_of A B stores.NotFound P told = tt
damage_of A B stores.Exists P told = tt
damage_of A B stores.NoSpace P told = tt
damage_of A B stores.Lost P told = tt
damage_of A B stores.Failed P told = tt
damage_of A B (stores.Corrupt tags) P told = told
damage_of A B (stores.Garbled leaf) P told = told
damage_of A B stores.NoMemory P told = tt

pub reports_of : (A B : Type 0) (e : StoreAnswer) → damage_in {A = A} (Err e) ≡ damage_in {A = B} (Err e)
reports_of A B stores.NotFound = refl
reports_of A B stores.Exists = refl
reports_of A B stores.NoSpace = refl
reports_of A B stores.Lost = refl
reports_of A B stores.Failed = refl
reports_of A B (stores.Corrupt tags) = refl
reports_of A B (stores.Garbled leaf) = refl
reports_of A B stores.NoMemory = refl

-- ---- answers that differ

pub ok_err : {A : Type 0} (a : A) (e : StoreAnswer) → Ok a ≡ Err e → ⊥
ok_err a e same = cc

err_ok : {A : Type 0} (e : StoreAnswer) (a : A) → Err e ≡ Ok a → ⊥
err_ok e a same = cc

differ_exists : (A : Type 0) → (let r : Result A StoreAnswer = Err stores.NotFound in r ≡ Err stores.Exists) → ⊥
differ_exists A e = cc

differ_space : (A : Type 0) → (let r : Result A StoreAnswer = Err stores.NotFound in r ≡ Err stores.NoSpace) → ⊥
differ_space A e = cc

both_of : (o : Option Object) (facts : Facts) (secret : List ℕ) → with_object o (λ x. Ok (facts_of x)) ≡ Ok facts → with_object o (λ x. Ok x.secret) ≡ Ok secret →
    with_object {A = ObjectKey} o (λ x. Ok (record { kind = x.kind; usage = x.usage; secret = x.secret })) ≡ Ok (record { kind = facts.kind; usage = facts.usage; secret = secret })
both_of None facts secret one two = absurd (err_ok _ _ one)
both_of (Some x) facts secret one two =
    let same : facts_of x ≡ facts = cc in
    let alike : x.secret ≡ secret = cc in
    rw (← same, ← alike) refl

-- ---- when an answer comes, after one call that went well

rose : (a b c : ℕ) → a ≤ b → Rose b c → Rose a c
rose a b c le up = ⊎_elim (λ (l : b < c). inl (omega (arith, le, l))) (λ e. inr e) up

later_cause : {A : Type 0} (result : Result A StoreAnswer) (s m t : Status) → s.lost ≡ false → m.lost ≡ false → s.faults ≤ m.faults → Cause result m t → Cause result s t
later_cause (Ok a) s m t works worked le met = (works, met.1)
later_cause (Err stores.NotFound) s m t works worked le met = (works, met.1)
later_cause (Err stores.Exists) s m t works worked le met = (works, met.1)
later_cause (Err stores.NoSpace) s m t works worked le met = (works, met.1)
later_cause (Err stores.Lost) s m t works worked le met = absurd (both_ways _ worked met.0)
later_cause (Err stores.Failed) s m t works worked le met = (works, met.1, rose s.faults m.faults t.faults le met.2)
later_cause (Err (stores.Corrupt tags)) s m t works worked le met = (works, met.1, met.2)
later_cause (Err (stores.Garbled leaf)) s m t works worked le met = (works, met.1)
later_cause (Err stores.NoMemory) s m t works worked le met = (works, met.1)

later_unfailed : {A : Type 0} (result : Result A StoreAnswer) (s m t : ℕ) → m ≡ s → UnlessFailed result (t ≡ m) → UnlessFailed result (t ≡ s)
later_unfailed (Ok a) s m t one two = two ∙ one
later_unfailed (Err stores.NotFound) s m t one two = two ∙ one
later_unfailed (Err stores.Exists) s m t one two = two ∙ one
later_unfailed (Err stores.NoSpace) s m t one two = two ∙ one
later_unfailed (Err stores.Lost) s m t one two = two ∙ one
later_unfailed (Err stores.Failed) s m t one two = tt
later_unfailed (Err (stores.Corrupt tags)) s m t one two = two ∙ one
later_unfailed (Err (stores.Garbled leaf)) s m t one two = two ∙ one
later_unfailed (Err stores.NoMemory) s m t one two = two ∙ one

tries_after : (changes : Bool) (s m t : Status) → m.change_attempts ≡ s.change_attempts → TriesOnce changes m t → TriesOnce changes s t
tries_after true s m t same tried = (omega (arith, same, tried.0), omega (arith, same, tried.1))
tries_after false s m t same tried = tried ∙ same

module _ {D : Type 0} (K : Keeper D) where
  -- a read that went well
  pub record Looked (old mid : D) : Type 0 where
    pub works : (K.status old).lost ≡ false
    pub worked : (K.status mid).lost ≡ false
    pub later : (K.status old).faults ≤ (K.status mid).faults
    pub unfailed : (K.status mid).faults ≡ (K.status old).faults
    pub foundation : (K.status mid).foundation ≡ (K.status old).foundation
    pub reports : (K.status mid).damage_reports ≡ (K.status old).damage_reports
    pub attempts : (K.status mid).change_attempts ≡ (K.status old).change_attempts
    pub model : K.has_model old → K.has_model mid
    pub same : K.has_model old → K.contents mid ≡ K.contents old
    pub below : K.honest_below old → K.honest_below mid
    pub honest : K.honest old → K.honest mid
    pub past : K.honest old → KeepsPast K old mid
    pub crash : K.honest old → LeavesJust K old (K.contents old) → CrashLeaves K (K.contents old) old mid

  pub looked : {A : Type 0} (stated : Store → Result A StoreAnswer) (Bounds : A → Type 0) (a : A) (old mid : D) → Reads K stated Bounds (Ok a) old mid → Looked old mid
  looked stated Bounds a old mid read = record {
    works = read.call.cause.cause.0;
    worked = read.call.cause.cause.1;
    later = read.call.cause.later;
    unfailed = read.call.cause.unfailed;
    foundation = read.call.cause.foundation;
    reports = omega (arith, read.call.cause.reports);
    attempts = omega (arith, read.call.attempts);
    model = read.call.model;
    same = read.same;
    below = read.call.below;
    honest = λ h. (read.call.honest h).0;
    past = read.call.past;
    crash = read.crash;
  }

  has_cause_after : {A : Type 0} (result : Result A StoreAnswer) (old mid new : D) → Looked old mid → HasCause result (K.status mid) (K.status new) → HasCause result (K.status old) (K.status new)
  has_cause_after result old mid new one two = record {
    cause = later_cause result (K.status old) (K.status mid) (K.status new) one.works one.worked one.later two.cause;
    later = omega (arith, one.later, two.later);
    unfailed = later_unfailed result (K.status old).faults (K.status mid).faults (K.status new).faults one.unfailed two.unfailed;
    foundation = two.foundation ∙ one.foundation;
    reports = omega (arith, two.reports, one.reports);
  }

  past_after : (old mid new : D) → KeepsPast K old mid → KeepsPast K mid new → KeepsPast K old new
  past_after old mid new one two = record {
    later = omega (arith, one.later, two.later);
    past = λ t o le left. two.past t o (omega (arith, le, one.later)) (one.past t o le left);
  }

  just_after : (old mid : D) → Looked old mid → K.has_model old → CrashLeaves K (K.contents old) old mid → LeavesJust K mid (K.contents mid)
  just_after old mid one there leaves = subst (λ c. LeavesJust K mid c) (sym (one.same there)) leaves.afterwards

  -- what remains after the second call, which itself left this alone
  leaves_after : (old mid new : D) → Looked old mid → K.has_model old → CrashLeaves K (K.contents old) old mid → CrashLeaves K (K.contents mid) mid new → CrashLeaves K (K.contents old) old new
  leaves_after old mid new one there first second =
      let two : CrashLeaves K (K.contents old) mid new = subst (λ c. CrashLeaves K c mid new) (one.same there) second in
      record {
        any_moment = joined K.moment K.left_since old mid new (λ o. o ≡ Some (K.contents old)) first.any_moment two.any_moment;
        afterwards = two.afterwards;
      }

  kept_after : (old mid new : D) → Looked old mid → IsKept K mid new → IsKept K old new
  kept_after old mid new one two = record {
    model = λ t. two.model (one.model t);
    still = λ t lost. two.still (one.model t) lost ∙ one.same t;
    beside = λ t. subst (λ c. StaysBeside c (K.contents new)) (one.same t) (two.beside (one.model t));
    below = λ b. two.below (one.below b);
    quiet = λ lost. absurd (both_ways _ one.works lost);
    past = λ h. past_after old mid new (one.past h) (two.past (one.honest h));
  }

  -- who is honest has a store to answer from
  module _ (honest_model : (d : D) → K.honest d → K.has_model d) where
    ends_after : (old mid new : D) → Looked old mid → EndsUnchanged K mid new → EndsUnchanged K old new
    ends_after old mid new one two = record {
      contents = λ t. two.contents (one.model t) ∙ one.same t;
      status = record {
        cause = two.status.cause ∙ one.worked ∙ sym one.works;
        later = omega (arith, one.later, two.status.later);
        foundation = two.status.foundation ∙ one.foundation;
        reports = omega (arith, two.status.reports, one.reports);
      };
      honest = λ h. two.honest (one.honest h);
      keeps = kept_after old mid new one two.keeps;
      crash = λ h just.
          let first = one.crash h just in
          leaves_after old mid new one (honest_model old h) first (two.crash (one.honest h) (just_after old mid one (honest_model old h) first));
    }

    ends_given : (result : Result Result_of StoreAnswer) (old mid new : D) → Looked old mid → IfOk result (λ outcome. UnlessAnswered outcome (EndsUnchanged K mid new)) →
        IfOk result (λ outcome. UnlessAnswered outcome (EndsUnchanged K old new))
    ends_given (Ok (outcomes.Answered answer)) old mid new one two = tt
    ends_given (Ok (outcomes.Returned ending)) old mid new one two = ends_after old mid new one two
    ends_given (Ok outcomes.Panicked) old mid new one two = ends_after old mid new one two
    ends_given (Err e) old mid new one two = tt

    turns_after : (kind : TurnKind) (doubt in_doubt : Option Store) (old mid new : D) → Looked old mid → K.has_model old → doubt ≡ in_doubt →
        CrashLeaves K (K.contents old) old mid → CrashTurns K kind doubt mid new → CrashTurns K kind in_doubt old new
    turns_after kind doubt in_doubt old mid new one there agree first second =
        let P : Remains → Type 0 = LeftByTurn kind in_doubt (K.contents old) (K.contents new) in
        let two : LeavesOnly K.moment K.left_since mid new (LeftByTurn kind doubt (K.contents old) (K.contents new)) =
        subst (λ c. LeavesOnly K.moment K.left_since mid new (LeftByTurn kind doubt c (K.contents new))) (one.same there) second.any_moment in
        record {
          any_moment = joined K.moment K.left_since old mid new P (weaker K.moment K.left_since old mid (λ o. o ≡ Some (K.contents old)) P
              (λ o e. only_old kind in_doubt (K.contents old) (K.contents new) o e) first.any_moment)
              (subst (λ d. LeavesOnly K.moment K.left_since mid new (LeftByTurn kind d (K.contents old) (K.contents new))) agree two);
          afterwards = second.afterwards;
        }

    -- what comes to the store after a read, as if it came at once
    pub given_after : (result : Result Result_of StoreAnswer) (seen if_served : Outcome Objects) (changes : Bool) (held kept left : Held) (old mid new : D)
        → Looked old mid → (K.has_model old → seen ≡ if_served) → IsGiven K result seen changes held kept left mid new → IsGiven K result if_served changes held kept left old new
    given_after result seen if_served changes held kept left old mid new one agree two = record {
      gives = λ t. subst (λ p. Gives result p (objects_in held (K.contents old)) (objects_in kept (K.contents old)) (objects_in left (K.contents new))) (agree t)
          (subst (λ c. Gives result seen (objects_in held c) (objects_in kept c) (objects_in left (K.contents new))) (one.same t) (two.gives (one.model t)));
      cause = λ e. has_cause_after result old mid new one (two.cause e);
      tried = tries_after changes (K.status old) (K.status mid) (K.status new) one.attempts two.tried;
      stays = two.stays;
      want = λ e. ends_after old mid new one (two.want e);
      ends = ends_given result old mid new one two.ends;
      damage = two.damage;
      honest = λ h. two.honest (one.honest h);
      keeps = kept_after old mid new one two.keeps;
      crash = λ h just.
          let first = one.crash h just in
          turns_after (kind_by changes result) (left_by seen) (left_by if_served) old mid new one (honest_model old h) (ap left_by (agree (honest_model old h))) first
          (two.crash (one.honest h) (just_after old mid one (honest_model old h) first));
    }

    pub call_after : {A : Type 0} (result : Result A StoreAnswer) (old mid new : D) → Looked old mid → (K.has_model old → K.contents mid ≡ K.contents old) →
        IsCall K 0 result mid new → IsCall K 0 result old new
    call_after result old mid new one same two = record {
      model = λ t. two.model (one.model t);
      still = λ t lost. two.still (one.model t) lost ∙ same t;
      limits = λ t. (subst (λ (c : Contents). IsWithinLimits c.store) (same t) (two.limits (one.model t)).0, (two.limits (one.model t)).1);
      cause = has_cause_after result old mid new one two.cause;
      attempts = omega (arith, one.attempts, two.attempts);
      damage = two.damage;
      below = λ b. two.below (one.below b);
      honest = λ h. two.honest (one.honest h);
      quiet = λ lost. absurd (both_ways _ one.works lost);
      past = λ h. past_after old mid new (one.past h) (two.past (one.honest h));
    }

    -- a read after another is one from the beginning, of what both give
    read_after : {A : Type 0} (stated : Store → Result A StoreAnswer) (Bounds : A → Type 0) (result : Result A StoreAnswer) (old mid new : D) → Looked old mid
        → (K.has_model old → Answers result (stated (K.contents old).store)) → (K.has_model mid → K.contents new ≡ K.contents mid) → IfOk result (λ a. Bounds a) → IsCall K 0 result mid new
        → (K.honest mid → LeavesJust K mid (K.contents mid) → CrashLeaves K (K.contents mid) mid new) → Reads K stated Bounds result old new
    read_after stated Bounds result old mid new one answers same bounds call crash = record {
      answer = answers;
      same = λ t. same (one.model t) ∙ one.same t;
      bounds = bounds;
      call = call_after result old mid new one one.same call;
      crash = λ h just.
          let first = one.crash h just in
          leaves_after old mid new one (honest_model old h) first (crash (one.honest h) (just_after old mid one (honest_model old h) first));
    }

  -- a call that went well, as one with another value
  ok_call : {A B : Type 0} (a : A) (b : B) (old new : D) → IsCall K 0 (Ok a) old new → IsCall K 0 (Ok b) old new
  ok_call a b old new call = record {
    model = call.model;
    still = call.still;
    limits = call.limits;
    cause = record { cause = call.cause.cause; later = call.cause.later; unfailed = call.cause.unfailed; foundation = call.cause.foundation; reports = call.cause.reports };
    attempts = call.attempts;
    damage = tt;
    below = call.below;
    honest = λ h. ((call.honest h).0, tt);
    quiet = call.quiet;
    past = call.past;
  }

  -- a read that gave nothing, as one of something else
  pub err_read : {A B : Type 0} (stated : Store → Result A StoreAnswer) (Bounds : A → Type 0) (stated_ : Store → Result B StoreAnswer) (Bounds_ : B → Type 0) (e : StoreAnswer) (old new : D)
      → ((store : Store) → Answers {A = A} (Err e) (stated store) → Answers {A = B} (Err e) (stated_ store)) → Reads K stated Bounds (Err e) old new → Reads K stated_ Bounds_ (Err e) old new
  err_read {A} {B} stated Bounds stated_ Bounds_ e old new agree read = record {
    answer = λ t. agree (K.contents old).store (read.answer t);
    same = read.same;
    bounds = tt;
    call = record {
      model = read.call.model;
      still = read.call.still;
      limits = read.call.limits;
      cause = record {
        cause = cause_of A B e (K.status old) (K.status new) read.call.cause.cause;
        later = read.call.cause.later;
        unfailed = unfailed_of A B e _ read.call.cause.unfailed;
        foundation = read.call.cause.foundation;
        reports =
            read.call.cause.reports ∙ ap (λ n. (K.status old).damage_reports + n) (reports_of A B e);
      };
      attempts = read.call.attempts;
      damage = damage_of A B e (K.damage new) read.call.damage;
      below = read.call.below;
      honest = λ h. ((read.call.honest h).0, damage_of A B e (λ answer. ⊥) (read.call.honest h).1);
      quiet = read.call.quiet;
      past = read.call.past;
    };
    crash = read.crash;
  }

-- ---- of the same object

-- what isn't there isn't there, whatever is asked of it
not_there : {A B : Type 0} (o : Option Object) (f : Object → A) (g : Object → B) (e : StoreAnswer) → Answers {A = A} (Err e) (with_object o (λ x. Ok (f x))) →
    Answers {A = B} (Err e) (with_object o (λ x. Ok (g x)))
not_there None f g stores.NotFound told = refl
not_there {A} None f g stores.Exists told = absurd (differ_exists A told)
not_there {A} None f g stores.NoSpace told = absurd (differ_space A told)
not_there (Some x) f g stores.NotFound told = absurd (ok_err _ _ told)
not_there (Some x) f g stores.Exists told = absurd (ok_err _ _ told)
not_there (Some x) f g stores.NoSpace told = absurd (ok_err _ _ told)
not_there o f g stores.Lost told = tt
not_there o f g stores.Failed told = tt
not_there o f g (stores.Corrupt tags) told = tt
not_there o f g (stores.Garbled leaf) told = tt
not_there o f g stores.NoMemory told = tt

-- kind and usage by the one read, the secret by the other
key_of_both : (store : Store) (id : List ℕ) (facts : Facts) (secret : List ℕ) → found store id ≡ Ok facts → secret_at store id ≡ Ok secret →
    stored_key store id ≡ Ok (record { kind = facts.kind; usage = facts.usage; secret = secret })
key_of_both store id facts secret one two = both_of (object_at store id) facts secret one two

-- who is honest has a store to answer from
module _ {D : Type 0} (K : Keeper D) (honest_model : (d : D) → K.honest d → K.has_model d) (id : List ℕ) where
  abbrev key_of : Store → Result ObjectKey StoreAnswer
  key_of store = stored_key store id

  abbrev key_in : Object → ObjectKey
  key_in x = record { kind = x.kind; usage = x.usage; secret = x.secret }

  -- what tells no facts gives no key
  pub facts_refused : (e : StoreAnswer) (old new : D) → Reads K (λ store. found store id) AreFacts (Err e) old new → Reads K key_of IsObjectKey (Err e) old new
  facts_refused e old new read =
      err_read K (λ store. found store id) AreFacts key_of IsObjectKey e old new (λ store told. not_there (object_at store id) facts_of key_in e told) read

  -- nor does what tells no secret behind them
  pub secret_refused : (facts : Facts) (e : StoreAnswer) (old mid new : D) → Reads K (λ store. found store id) AreFacts (Ok facts) old mid
      → Reads K (λ store. secret_at store id) IsSecret (Err e) mid new → Reads K key_of IsObjectKey (Err e) old new
  secret_refused facts e old mid new one two =
      let first = looked K (λ store. found store id) AreFacts facts old mid one in
      let none : Reads K key_of IsObjectKey (Err e) mid new =
      err_read K (λ store. secret_at store id) IsSecret key_of IsObjectKey e mid new (λ store told. not_there (object_at store id) (λ x. x.secret) key_in e told) two in
      read_after K honest_model key_of IsObjectKey (Err e) old mid new first
      (λ t. subst (λ (k : Contents). Answers {A = ObjectKey} (Err e) (key_of k.store)) (first.same t) (none.answer (first.model t))) none.same tt none.call none.crash

  pub key_read : (facts : Facts) (secret : List ℕ) (old mid new : D) → Reads K (λ store. found store id) AreFacts (Ok facts) old mid
      → Reads K (λ store. secret_at store id) IsSecret (Ok secret) mid new → Reads K key_of IsObjectKey (Ok (record { kind = facts.kind; usage = facts.usage; secret = secret })) old new
  key_read facts secret old mid new one two =
      let key : ObjectKey = record { kind = facts.kind; usage = facts.usage; secret = secret } in
      let first = looked K (λ store. found store id) AreFacts facts old mid one in
      read_after K honest_model key_of IsObjectKey (Ok key) old mid new first
      (λ t. key_of_both (K.contents old).store id facts secret (one.answer t) (subst (λ (k : Contents). secret_at k.store id ≡ Ok secret) (first.same t) (two.answer (first.model t))))
      two.same two.bounds (ok_call K secret key mid new two.call) two.crash
