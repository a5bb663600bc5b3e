-- From one read of the store to what an ask is given: an outcome, a refusal, or want of memory behind what was read.
use Rattle.std.proofs.Common.{◌≡◌, ◌+◌, Bool, true, false, Option, Some, Result, Ok, Err, refl, sym, ap, subst, ◌∙◌, arith}
use Rattle.tee_base.proofs.Crash.{weaker}
use Rattle.store_api.specs.declared.answer.StoreAnswer.{StoreAnswer}
use Rattle.store_api.specs.declared.answer.StoreAnswer.TheVariants as stores
use Rattle.store_api.specs.Keeping.{Answers, Keeper, LeavesJust, Reads, Status}
use Rattle.store_api.specs.Stores.{Store}
use Rattle.object_asks.specs.declared.outcome.Outcome.{Outcome as Result_of}
use Rattle.object_asks.specs.declared.turn.TurnKind.{TurnKind}
use Rattle.object_asks.specs.declared.turn.TurnKind.TheVariants.{Plain}
use Rattle.object_asks.specs.Resolutions.{Objects, Outcome, code_of, refusal_with}
use Rattle.object_asks.specs.Held.{Held}
use Rattle.object_asks.specs.Serving.{CrashTurns, EndsUnchanged, Gives, IsGiven, IsKept, IsOutcome, LeftByTurn, StaysBeside, TriesOnce, kind_of, left_by, objects_in}
use Rattle.object_asks.proofs.Crashes.{only_old, whatever}
use Rattle.object_asks.proofs.ReadingLemmas.{cause_of, damage_of, ok_err, reports_of, unfailed_of}
use Rattle.object_asks.proofs.ServingLemmas.{ends_with}

-- a refusal is the stated one, and leaves this
pub refusal_given : {A : Type 0} (e : StoreAnswer) (stated : Result A StoreAnswer) (if_served : Outcome Objects) (before kept after : Objects) → Answers {A = A} (Err e) stated
    → (stated ≡ Err e → if_served ≡ refusal_with kept (code_of e)) → after ≡ kept → Gives (Err e) if_served before kept after
refusal_given stores.NotFound stated if_served before kept after told refuses same = (refuses told, same)
refusal_given stores.Exists stated if_served before kept after told refuses same = (refuses told, same)
refusal_given stores.NoSpace stated if_served before kept after told refuses same = (refuses told, same)
refusal_given stores.Lost stated if_served before kept after told refuses same = same
refusal_given stores.Failed stated if_served before kept after told refuses same = same
refusal_given (stores.Corrupt tags) stated if_served before kept after told refuses same = same
refusal_given (stores.Garbled leaf) stated if_served before kept after told refuses same = same
refusal_given stores.NoMemory stated if_served before kept after told refuses same = tt

pub only_want : (e : StoreAnswer) → (let r : Result Result_of StoreAnswer = Err e in r ≡ Err stores.NoMemory) → e ≡ stores.NoMemory
only_want e same = cc

-- a call that was asked for no change tries none
no_change : (changes : Bool) (s t : Status) → t.change_attempts ≡ s.change_attempts + 0 → TriesOnce changes s t
no_change true s t same = (omega (arith, same), omega (arith, same))
no_change false s t same = omega (arith, same)

-- who is honest has a store to answer from
module _ {D A : Type 0} (K : Keeper D) (honest_model : (d : D) → K.honest d → K.has_model d) (stated : Store → Result A StoreAnswer) (Bounds : A → Type 0) (old new : D) where
  abbrev reads : Result A StoreAnswer → Type 0
  reads result = Reads K stated Bounds result old new

  kept_by : (result : Result A StoreAnswer) → reads result → IsKept K old new
  kept_by result read = record {
    model = read.call.model;
    still = read.call.still;
    beside = λ t. subst (λ c. StaysBeside (K.contents old) c) (sym (read.same t)) (record { rest = refl; number = omega arith });
    below = read.call.below;
    quiet = read.call.quiet;
    past = read.call.past;
  }

  -- a read that wasn't kept from its answer, or found no memory
  unchanged : (result : Result A StoreAnswer) → (K.status old).lost ≡ false → (K.status new).lost ≡ false → (K.status new).damage_reports ≡ (K.status old).damage_reports + 0 →
      reads result → EndsUnchanged K old new
  unchanged result works worked reports read = record {
    contents = read.same;
    status = record { cause = worked ∙ sym works; later = read.call.cause.later; foundation = read.call.cause.foundation; reports = reports };
    honest = λ h. (read.call.honest h).0;
    keeps = kept_by result read;
    crash = read.crash;
  }

  wanting : (e : StoreAnswer) → e ≡ stores.NoMemory → reads (Err e) → EndsUnchanged K old new
  wanting e same read =
      let here : reads (Err stores.NoMemory) = subst (λ (x : StoreAnswer). reads (Err x)) same read in
      unchanged (Err stores.NoMemory) here.call.cause.cause.0 here.call.cause.cause.1 here.call.cause.reports here

  crash_by : (kind : TurnKind) (in_doubt : Option Store) (result : Result A StoreAnswer) → reads result → K.honest old → LeavesJust K old (K.contents old) → CrashTurns K kind in_doubt old new
  crash_by kind in_doubt result read h just =
      let leaves = read.crash h just in
      record {
        any_moment = weaker K.moment K.left_since old new (λ o. o ≡ Some (K.contents old)) (LeftByTurn kind in_doubt (K.contents old) (K.contents new))
            (λ o e. only_old kind in_doubt (K.contents old) (K.contents new) o e) leaves.any_moment;
        afterwards = whatever kind _ (subst (λ c. LeavesJust K new c) (sym (read.same (honest_model old h))) leaves.afterwards);
      }

  -- this outcome comes behind a read that wasn't kept from its answer
  pub given_plainly : (result : Result A StoreAnswer) (outcome : Result_of) (if_served : Outcome Objects) (changes : Bool) (held left : Held)
      → (K.status old).lost ≡ false → (K.status new).lost ≡ false → (K.status new).damage_reports ≡ (K.status old).damage_reports + 0
      → (K.status new).faults ≡ (K.status old).faults → (K.has_model old → IsOutcome outcome if_served (objects_in held (K.contents old)) (objects_in left (K.contents old))) → reads result
      → IsGiven K (Ok outcome) if_served changes held held left old new
  given_plainly result outcome if_served changes held left works worked reports unfailed gives read = record {
    gives = λ t. subst (λ c. IsOutcome outcome if_served (objects_in held (K.contents old)) (objects_in left c)) (sym (read.same t)) (gives t);
    cause = λ no_want. record { cause = (works, worked); later = read.call.cause.later; unfailed = unfailed; foundation = read.call.cause.foundation; reports = reports };
    tried = no_change changes (K.status old) (K.status new) read.call.attempts;
    stays = λ e. absurd (ok_err _ _ e);
    want = λ e. absurd (ok_err _ _ e);
    ends = ends_with outcome (EndsUnchanged K old new) (unchanged result works worked reports read);
    damage = tt;
    honest = λ h. ((read.call.honest h).0, tt);
    keeps = kept_by result read;
    crash = λ h just. crash_by Plain (left_by if_served) result read h just;
  }

  -- what was read gives this outcome
  pub given_found : (a : A) (by : Result A StoreAnswer → Outcome Objects) (changes : Bool) (outcome : Result_of) (held left : Held)
      → IsOutcome outcome (by (Ok a)) (objects_in held (K.contents old)) (objects_in left (K.contents old)) → reads (Ok a)
      → IsGiven K (Ok outcome) (by (stated (K.contents old).store)) changes held held left old new
  given_found a by changes outcome held left gives read =
      given_plainly (Ok a) outcome (by (stated (K.contents old).store)) changes held left read.call.cause.cause.0 read.call.cause.cause.1 read.call.cause.reports
      read.call.cause.unfailed (λ t. subst (λ r. IsOutcome outcome (by r) (objects_in held (K.contents old)) (objects_in left (K.contents old))) (sym (read.answer t)) gives) read

  -- the read was refused, or was kept from its answer
  pub given_refusal : (e : StoreAnswer) (by : Result A StoreAnswer → Outcome Objects) (changes : Bool) (held : Held)
      → by (Err e) ≡ refusal_with (objects_in held (K.contents old)) (code_of e) → reads (Err e) → IsGiven K (Err e) (by (stated (K.contents old).store)) changes held held held old new
  given_refusal e by changes held refuses read = record {
    gives = λ t. refusal_given e (stated (K.contents old).store) (by (stated (K.contents old).store)) (objects_in held (K.contents old)) (objects_in held (K.contents old))
        (objects_in held (K.contents new)) (read.answer t) (λ is. ap by is ∙ refuses) (ap (objects_in held) (read.same t));
    cause = λ no_want. record {
      cause = cause_of A Result_of e (K.status old) (K.status new) read.call.cause.cause;
      later = read.call.cause.later;
      unfailed = unfailed_of A Result_of e _ read.call.cause.unfailed;
      foundation = read.call.cause.foundation;
      reports = read.call.cause.reports ∙ ap (λ n. (K.status old).damage_reports + n) (reports_of A Result_of e);
    };
    tried = no_change changes (K.status old) (K.status new) read.call.attempts;
    stays = λ is. refl;
    want = λ is. wanting e (only_want e is) read;
    ends = tt;
    damage = damage_of A Result_of e (K.damage new) read.call.damage;
    honest = λ h. ((read.call.honest h).0, damage_of A Result_of e (λ answer. ⊥) (read.call.honest h).1);
    keeps = kept_by (Err e) read;
    crash = λ h just. crash_by (kind_of changes e) (left_by (by (stated (K.contents old).store))) (Err e) read h just;
  }

  -- there is no memory for what was read
  pub given_want : (a : A) (if_served : Outcome Objects) (changes : Bool) (held : Held) → reads (Ok a) → IsGiven K (Err stores.NoMemory) if_served changes held held held old new
  given_want a if_served changes held read =
      let ended : EndsUnchanged K old new = unchanged (Ok a) read.call.cause.cause.0 read.call.cause.cause.1 read.call.cause.reports read in
      record {
        gives = λ t. tt;
        cause = λ no_want. absurd (no_want refl);
        tried = no_change changes (K.status old) (K.status new) read.call.attempts;
        stays = λ is. refl;
        want = λ is. ended;
        ends = tt;
        damage = tt;
        honest = λ h. ((read.call.honest h).0, tt);
        keeps = kept_by (Ok a) read;
        crash = λ h just. crash_by Plain (left_by if_served) (Ok a) read h just;
      }
