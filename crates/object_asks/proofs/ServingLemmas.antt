-- From what the store gives to what comes of an ask.
use Rattle.std.proofs.Common.{◌≡◌, Bool, true, false, Option, None, Some, IfOk, IfSome, OnErr, Result, Ok, Err, refl, sym, ap, subst, ◌∙◌, arith}
use Rattle.std.proofs.lemmas.Result.{IfOk-weaker}
use Rattle.tee_base.specs.declared.bytes.NoMemory.{NoMemory as WantOfMemory}
use Rattle.tee_base.proofs.Crash.{started}
use Rattle.app_api.specs.declared.ask.Answer.{Answer}
use Rattle.app_api.specs.declared.ask.Answer.TheVariants.{Refused}
use Rattle.store_api.specs.declared.answer.StoreAnswer.{StoreAnswer}
use Rattle.store_api.specs.declared.answer.StoreAnswer.TheVariants as stores
use Rattle.store_api.specs.Keeping.{Status, Keeper, HasCause, LeavesJust}
use Rattle.object_asks.specs.Held.{Held}
use Rattle.object_asks.specs.declared.turn.TurnKind.{TurnKind}
use Rattle.object_asks.specs.declared.turn.TurnKind.TheVariants.{Plain}
use Rattle.object_asks.specs.Asks.{Outcome, Answered, Panicked, Resolution, Settled, ComesToStore, Objects, came_of, code_of, with_held, outcome_in, refusal_with, Serves, without_store}
use Rattle.tee_base.specs.declared.codes.TheConstants.Code.{STORAGE_NOT_AVAILABLE}
use Rattle.object_asks.specs.declared.outcome.Outcome.{Outcome as Result_of}
use Rattle.object_asks.specs.declared.outcome.Outcome.TheVariants as outcomes
use Rattle.object_asks.specs.declared.outcome.Served.{Served}
use Rattle.object_asks.specs.Serving.{EndsUnchanged, FindsNoMemory, HasStatus, IsGiven, IsKept, IsOutcome, CrashTurns, IsServed, ServesAsk}
use Rattle.object_asks.specs.Serving.{TriesOnce, UnlessAnswered, kind_of, left_by, objects_in, plainly, told_of}
use Rattle.object_asks.proofs.Crashes.{idle_crash, idle_keeps}

-- where the store isn't lost, and where it is
serves : (lost : Bool) (s : Objects) (if_served : Outcome Objects) → lost ≡ false → came_of Serves lost (ComesToStore s if_served) ≡ if_served
serves lost s if_served e = rw e refl

keeps : (lost : Bool) (s : Objects) (if_served : Outcome Objects) → lost ≡ true → came_of Serves lost (ComesToStore s if_served) ≡ refusal_with s STORAGE_NOT_AVAILABLE
keeps lost s if_served e = rw e refl

pub stays : (s : Status) → HasStatus Plain s s
stays s = record { cause = refl; later = omega arith; foundation = refl; reports = omega arith }

abbrev told_as : Bool → StoreAnswer → Served
told_as changes answer = record { kind = kind_of changes answer; outcome = outcomes.Answered (Refused (code_of answer)) }

pub ends_with : (outcome : Result_of) (fact : Type 0) → fact → UnlessAnswered outcome fact
ends_with (outcomes.Answered answer) fact holds = tt
ends_with (outcomes.Returned ending) fact holds = holds
ends_with outcomes.Panicked fact holds = holds

-- what isn't told is want of memory
untold : (result : Result Result_of StoreAnswer) (changes : Bool) → told_of changes result ≡ None → result ≡ Err stores.NoMemory
untold (Ok outcome) changes told = absurd (let e : Some (plainly outcome) ≡ None = told in cc)
untold (Err stores.NoMemory) changes told = refl
untold (Err stores.NotFound) changes told = absurd (let e : Some (told_as changes stores.NotFound) ≡ None = told in cc)
untold (Err stores.Exists) changes told = absurd (let e : Some (told_as changes stores.Exists) ≡ None = told in cc)
untold (Err stores.NoSpace) changes told = absurd (let e : Some (told_as changes stores.NoSpace) ≡ None = told in cc)
untold (Err stores.Lost) changes told = absurd (let e : Some (told_as changes stores.Lost) ≡ None = told in cc)
untold (Err stores.Failed) changes told = absurd (let e : Some (told_as changes stores.Failed) ≡ None = told in cc)
untold (Err (stores.Corrupt tags)) changes told = absurd (let e : Some (told_as changes (stores.Corrupt tags)) ≡ None = told in cc)
untold (Err (stores.Garbled leaf)) changes told = absurd (let e : Some (told_as changes (stores.Garbled leaf)) ≡ None = told in cc)

module _ {D : Type 0} (K : Keeper D) where
  -- an ask that finds no memory before it comes to the store
  pub by_nothing : (old : D) → EndsUnchanged K old old
  by_nothing old = record {
    contents = λ t. refl;
    status = stays (K.status old);
    honest = λ h. h;
    keeps = idle_keeps K old;
    crash = λ h just. record { any_moment = started K.moment K.left_since old (λ o. o ≡ Some (K.contents old)) just.only; afterwards = just };
  }

  -- the store refuses
  declined : (answer : StoreAnswer) (if_served : Outcome Objects) (changes : Bool) (held kept left : Held) (old new : D)
      → kind_of changes answer ≡ Plain → (K.has_model old → (if_served ≡ refusal_with (objects_in kept (K.contents old)) (code_of answer))
      × (objects_in left (K.contents new) ≡ objects_in kept (K.contents old)))
      → (K.status old).lost ≡ false → HasStatus Plain (K.status old) (K.status new) → (K.honest old → K.honest new)
      → IsKept K old new → (K.honest old → LeavesJust K old (K.contents old) → CrashTurns K (kind_of changes answer) (left_by if_served) old new)
      → IsServed K (plainly (outcomes.Answered (Refused (code_of answer)))) (ComesToStore (objects_in kept (K.contents old)) if_served) changes held left old new
  declined answer if_served changes held kept left old new kind gives works stands sound keeps crash = record {
    outcome = λ t. serves (K.status old).lost _ if_served works ∙ (gives t).0 ∙ ap (λ s. refusal_with s (code_of answer)) (sym (gives t).1);
    ends = tt;
    reaches = λ t. tt;
    change = tt;
    status = stands;
    damage = tt;
    honest = λ h. (sound h, tt);
    keeps = keeps;
    crash = λ h just. subst (λ (k : TurnKind). CrashTurns K k (left_by if_served) old new) kind (crash h just);
  }

  told_served : (result : Result Result_of StoreAnswer) (if_served : Outcome Objects) (changes : Bool) (held kept left : Held) (old new : D)
      → IsGiven K result if_served changes held kept left old new → IfSome (told_of changes result) (λ served. IsServed K served (ComesToStore (objects_in kept (K.contents old)) if_served)
      changes held left old new)
  told_served (Ok outcome) if_served changes held kept left old new given =
      let met : HasCause (Ok outcome) (K.status old) (K.status new) = given.cause (λ e. let f : Ok outcome ≡ Err stores.NoMemory = e in cc) in
      record {
        outcome = λ t. subst (λ (o : Outcome Objects). IsOutcome outcome o (objects_in held (K.contents old)) (objects_in left (K.contents new)))
            (sym (serves (K.status old).lost _ if_served met.cause.0)) (given.gives t);
        ends = given.ends;
        reaches = λ t. tt;
        change = tt;
        status = record { cause = met.cause.1 ∙ sym met.cause.0; later = met.later; foundation = met.foundation; reports = met.reports };
        damage = tt;
        honest = λ h. ((given.honest h).0, tt);
        keeps = given.keeps;
        crash = given.crash;
      }
  told_served (Err stores.NotFound) if_served changes held kept left old new given =
      let met : HasCause (Err stores.NotFound) (K.status old) (K.status new) = given.cause (λ e. let f : (Err stores.NotFound) ≡ Err stores.NoMemory = e in cc) in
      declined stores.NotFound if_served changes held kept left old new refl given.gives met.cause.0 (record {
        cause = met.cause.1 ∙ sym met.cause.0;
        later = met.later;
        foundation =
            met.foundation;
        reports = met.reports;
      }) (λ h. (given.honest h).0) given.keeps given.crash
  told_served (Err stores.Exists) if_served changes held kept left old new given =
      let met : HasCause (Err stores.Exists) (K.status old) (K.status new) = given.cause (λ e. let f : (Err stores.Exists) ≡ Err stores.NoMemory = e in cc) in
      declined stores.Exists if_served changes held kept left old new refl given.gives met.cause.0 (record {
        cause = met.cause.1 ∙ sym met.cause.0;
        later = met.later;
        foundation =
            met.foundation;
        reports = met.reports;
      }) (λ h. (given.honest h).0) given.keeps given.crash
  told_served (Err stores.NoSpace) if_served changes held kept left old new given =
      let met : HasCause (Err stores.NoSpace) (K.status old) (K.status new) = given.cause (λ e. let f : (Err stores.NoSpace) ≡ Err stores.NoMemory = e in cc) in
      declined stores.NoSpace if_served changes held kept left old new refl given.gives met.cause.0 (record {
        cause = met.cause.1 ∙ sym met.cause.0;
        later = met.later;
        foundation =
            met.foundation;
        reports = met.reports;
      }) (λ h. (given.honest h).0) given.keeps given.crash
  told_served (Err stores.Lost) if_served changes held kept left old new given =
      let met : HasCause (Err stores.Lost) (K.status old) (K.status new) = given.cause (λ e. let f : (Err stores.Lost) ≡ Err stores.NoMemory = e in cc) in
      record {
        outcome = λ t. keeps (K.status old).lost _ if_served met.cause.0 ∙ ap (λ s. refusal_with s STORAGE_NOT_AVAILABLE) (sym (given.gives t));
        ends = tt;
        reaches = λ t. tt;
        change = tt;
        status = record { cause = met.cause.1 ∙ sym met.cause.0; later = met.later; foundation = met.foundation; reports = met.reports };
        damage = tt;
        honest = λ h. ((given.honest h).0, tt);
        keeps = given.keeps;
        crash = given.crash;
      }
  told_served (Err stores.Failed) if_served changes held kept left old new given =
      let met : HasCause (Err stores.Failed) (K.status old) (K.status new) = given.cause (λ e. let f : (Err stores.Failed) ≡ Err stores.NoMemory = e in cc) in
      record {
        outcome = λ t. ap (λ s. refusal_with s STORAGE_NOT_AVAILABLE) (sym (given.gives t));
        ends = tt;
        reaches = λ t. refl;
        change = refl;
        status = record { cause = met.cause; later = met.later; foundation = met.foundation; reports = met.reports };
        damage = tt;
        honest = λ h. ((given.honest h).0, tt);
        keeps = given.keeps;
        crash = given.crash;
      }
  told_served (Err (stores.Corrupt tags)) if_served changes held kept left old new given =
      let met : HasCause (Err (stores.Corrupt tags)) (K.status old) (K.status new) = given.cause (λ e. let f : (Err (stores.Corrupt tags)) ≡ Err stores.NoMemory = e in cc) in
      record {
        outcome = λ t. ap (λ s. refusal_with s (code_of (stores.Corrupt tags))) (sym (given.gives t));
        ends = tt;
        reaches = λ t. refl;
        change = tt;
        status = record { cause = (met.cause.0, met.cause.1); later = met.later; foundation = met.foundation; reports = met.reports };
        damage = (stores.Corrupt tags, given.damage);
        honest = λ h. absurd (given.honest h).1;
        keeps = given.keeps;
        crash = given.crash;
      }
  told_served (Err (stores.Garbled leaf)) if_served changes held kept left old new given =
      let met : HasCause (Err (stores.Garbled leaf)) (K.status old) (K.status new) = given.cause (λ e. let f : (Err (stores.Garbled leaf)) ≡ Err stores.NoMemory = e in cc) in
      record {
        outcome = λ t. ap (λ s. refusal_with s (code_of (stores.Garbled leaf))) (sym (given.gives t));
        ends = tt;
        reaches = λ t. refl;
        change = tt;
        status = record { cause = met.cause; later = met.later; foundation = met.foundation; reports = met.reports };
        damage = (stores.Garbled leaf, given.damage);
        honest = λ h. absurd (given.honest h).1;
        keeps = given.keeps;
        crash = given.crash;
      }
  told_served (Err stores.NoMemory) if_served changes held kept left old new given = tt

  -- what was told of what the store gave is what comes of the ask
  by_store : (result : Result Result_of StoreAnswer) (served : Served) (resolution : Resolution Objects) (if_served : Outcome Objects) (changes : Bool) (held kept left : Held) (old new : D)
      → told_of changes result ≡ Some served → resolution ≡ ComesToStore (objects_in kept (K.contents old)) if_served → IsGiven K result if_served changes held kept left old new →
      IsServed K served resolution changes held left old new
  by_store result served resolution if_served changes held kept left old new told same given =
      let done : IfSome (told_of changes result) (λ s. IsServed K s (ComesToStore (objects_in kept (K.contents old)) if_served) changes held left old new) =
      told_served result if_served changes held kept left old new given in
      let here : IsServed K served (ComesToStore (objects_in kept (K.contents old)) if_served) changes held left old new =
      subst (λ (o : Option Served). IfSome o (λ s. IsServed K s (ComesToStore (objects_in kept (K.contents old)) if_served) changes held left old new)) told done in
      subst (λ (c : Resolution Objects). IsServed K served c changes held left old new) (sym same) here

  by_told : (result : Result Result_of StoreAnswer) (given : Result Served WantOfMemory) (resolution : Resolution Objects) (if_served : Outcome Objects) (changes : Bool)
      (held kept left : Held) (old new : D)
      → IfOk given (λ served. told_of changes result ≡ Some served) → resolution ≡ ComesToStore (objects_in kept (K.contents old)) if_served →
      IsGiven K result if_served changes held kept left old new → IfOk given (λ served. IsServed K served resolution changes held left old new)
  by_told result given resolution if_served changes held kept left old new told same is =
      IfOk-weaker given _ _ (λ served t. by_store result served resolution if_served changes held kept left old new t same is) told

  -- what is settled before the store is asked
  by_panic : (served : Served) (resolution : Resolution Objects) (changes : Bool) (held : Held) (old : D)
      → served ≡ plainly outcomes.Panicked → resolution ≡ Settled Panicked → IsServed K served resolution changes held held old old
  by_panic served resolution changes held old is same = rw (is, same) (record {
    outcome = λ t. (refl, refl);
    ends = by_nothing old;
    reaches = λ t. tt;
    change = tt;
    status = stays (K.status old);
    damage = tt;
    honest = λ h. (h, tt);
    keeps = idle_keeps K old;
    crash = λ h just. idle_crash K _ _ old just;
  })

  by_answer : (served : Served) (resolution : Resolution Objects) (answer : Answer) (changes : Bool) (held left : Held) (old : D)
      → served ≡ plainly (outcomes.Answered answer) → resolution ≡ Settled (Answered (objects_in left (K.contents old)) answer) → IsServed K served resolution changes held left old old
  by_answer served resolution answer changes held left old is same = rw (is, same) (record {
    outcome = λ t. refl;
    ends = tt;
    reaches = λ t. tt;
    change = tt;
    status = stays (K.status old);
    damage = tt;
    honest = λ h. (h, tt);
    keeps = idle_keeps K old;
    crash = λ h just. idle_crash K _ _ old just;
  })

  -- what comes of an ask in which the store has no part
  by_kind : (served : Served) (resolution : Resolution Objects) (changes : Bool) (held left : Held) (old : D)
      → served.kind ≡ Plain → IsOutcome served.outcome (came_of Serves (K.status old).lost resolution) (objects_in held (K.contents old)) (objects_in left (K.contents old)) →
      IsServed K served resolution changes held left old old
  by_kind served resolution changes held left old kind outcome =
      subst (λ (k : TurnKind). IsServed K (record { kind = k; outcome = served.outcome }) resolution changes held left old old) (sym kind) (record {
        outcome = λ t. outcome;
        ends = ends_with served.outcome _ (by_nothing old);
        reaches = λ t. tt;
        change = tt;
        status = stays (K.status old);
        damage = tt;
        honest = λ h. (h, tt);
        keeps = idle_keeps K old;
        crash = λ h just. idle_crash K _ _ old just;
      })

  idle_tries : (changes : Bool) (s : Status) → TriesOnce changes s s
  idle_tries true s = (omega arith, omega arith)
  idle_tries false s = refl

  -- an ask that finds no memory before it comes to the store
  pub serves_nothing : (resolution : Resolution Objects) (changes : Bool) (held : Held) (old : D) (e : WantOfMemory) → ServesAsk K (Err e) resolution changes held held old old
  serves_nothing resolution changes held old e = record { served = tt; tried = idle_tries changes (K.status old); want = record { same_held = refl; store = by_nothing old } }

  -- an ask that is settled before the store is asked
  pub serves_panic : (served : Served) (resolution : Resolution Objects) (changes : Bool) (held : Held) (old : D)
      → served ≡ plainly outcomes.Panicked → resolution ≡ Settled Panicked → ServesAsk K (Ok served) resolution changes held held old old
  serves_panic served resolution changes held old is same = record { served = by_panic served resolution changes held old is same; tried = idle_tries changes (K.status old); want = tt }

  pub serves_answer : (served : Served) (resolution : Resolution Objects) (answer : Answer) (changes : Bool) (held left : Held) (old : D)
      → served ≡ plainly (outcomes.Answered answer) → resolution ≡ Settled (Answered (objects_in left (K.contents old)) answer) → ServesAsk K (Ok served) resolution changes held left old old
  serves_answer served resolution answer changes held left old is same = record {
    served = by_answer served resolution answer changes held left old is same;
    tried =
        idle_tries changes (K.status old);
    want = tt;
  }

  pub serves_kind : (served : Served) (resolution : Resolution Objects) (changes : Bool) (held left : Held) (old : D)
      → served.kind ≡ Plain → IsOutcome served.outcome (came_of Serves (K.status old).lost resolution) (objects_in held (K.contents old)) (objects_in left (K.contents old)) →
      ServesAsk K (Ok served) resolution changes held left old old
  serves_kind served resolution changes held left old kind outcome = record {
    served = by_kind served resolution changes held left old kind outcome;
    tried =
        idle_tries changes (K.status old);
    want = tt;
  }

  -- an ask that never needs the store
  pub left_in : (outcome : Result_of) (stated : Outcome Held) (held left : Held) (old : D) → IsOutcome outcome stated held left
      → IsOutcome outcome (outcome_in (with_held (objects_in held (K.contents old))) stated) (objects_in held (K.contents old)) (objects_in left (K.contents old))
  left_in (outcomes.Answered answer) stated held left old is = ap (outcome_in (with_held (objects_in held (K.contents old)))) is
  left_in (outcomes.Returned ending) stated held left old is = (ap (outcome_in (with_held (objects_in held (K.contents old)))) is.0, ap (λ h. objects_in h (K.contents old)) is.1)
  left_in outcomes.Panicked stated held left old is = (ap (outcome_in (with_held (objects_in held (K.contents old)))) is.0, ap (λ h. objects_in h (K.contents old)) is.1)

  pub serves_held : (served : Served) (outcome : Result_of) (resolution : Resolution Objects) (stated : Outcome Held) (changes : Bool) (held left : Held) (old : D)
      → served ≡ plainly outcome → resolution ≡ without_store (objects_in held (K.contents old)) stated → IsOutcome outcome stated held left
      → ServesAsk K (Ok served) resolution changes held left old old
  serves_held served outcome resolution stated changes held left old is same outcome_is = rw (is, same) (serves_kind (plainly outcome)
      (without_store (objects_in held (K.contents old)) stated) changes held left old refl (left_in outcome stated held left old outcome_is))

  -- an ask that is settled without the store, and leaves all as it was or as stated
  pub serves_here : (served : Served) (outcome : Result_of) (resolution : Resolution Objects) (stated : Outcome Objects) (changes : Bool) (held left : Held) (old : D)
      → served ≡ plainly outcome → resolution ≡ Settled stated → IsOutcome outcome stated (objects_in held (K.contents old)) (objects_in left (K.contents old)) →
      ServesAsk K (Ok served) resolution changes held left old old
  serves_here served outcome resolution stated changes held left old is same outcome_is = rw (is, same) (serves_kind (plainly outcome) (Settled stated) changes held left old refl outcome_is)

  wants : (result : Result Result_of StoreAnswer) (given : Result Served WantOfMemory) (if_served : Outcome Objects) (changes : Bool) (held kept left : Held) (old new : D)
      → OnErr given (told_of changes result ≡ None) → IsGiven K result if_served changes held kept left old new → OnErr given (FindsNoMemory K held left old new)
  wants result (Ok served) if_served changes held kept left old new told is = tt
  wants result (Err e) if_served changes held kept left old new told is = record { same_held = is.stays (untold result changes told); store = is.want (untold result changes told) }

  -- an ask that came to the store
  pub serves_told : (result : Result Result_of StoreAnswer) (given : Result Served WantOfMemory) (resolution : Resolution Objects) (if_served : Outcome Objects) (changes : Bool)
      (held kept left : Held) (old new : D)
      → IfOk given (λ served. told_of changes result ≡ Some served) → OnErr given (told_of changes result ≡ None) → resolution ≡ ComesToStore (objects_in kept (K.contents old)) if_served →
      IsGiven K result if_served changes held kept left old new → ServesAsk K given resolution changes held left old new
  serves_told result given resolution if_served changes held kept left old new told lack same is = record {
    served = by_told result given resolution if_served changes held kept left old new told same is;
    tried = is.tried;
    want = wants result given if_served changes held kept left old new lack is;
  }
