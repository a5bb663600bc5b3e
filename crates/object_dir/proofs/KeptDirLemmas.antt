-- What the calls of a store that keeps a region's directory promise.
use Rattle.std.proofs.Common.{◌≡◌, ◌≤◌, ◌<◌, ◌+◌, ◌∙◌, ℕ, true, false, Option, None, Some, Result, Ok, Err, refl, sym, ap, subst}
use Rattle.tee_base.specs.declared.limits.TheConstants.{MAX_HOSTS}
use Rattle.store_api.specs.declared.answer.StoreAnswer.{StoreAnswer}
use Rattle.store_api.specs.declared.answer.StoreAnswer.TheVariants.{NotFound, Exists, NoSpace, Lost, Failed, Corrupt, Garbled, NoMemory}
use Rattle.store_api.specs.declared.change.Change.{Change}
use Rattle.store_api.specs.Keeping.{Answers, Applies, Contents, IsCall, LeavesJust, Reads, UnlessFailed}
use Rattle.store_api.specs.Stores.{Store}
use Rattle.store_api.specs.Volumes.{Condition, Held, RestsAt, VolumeKeeper}
use Rattle.region_plan.specs.Reading.{ReadCause, refusal_of}
use Rattle.region_plan.specs.declared.directory.Directory.{Directory}
use Rattle.object_dir.specs.Directories.{damage_reports, dir_keeper}
use Rattle.object_dir.specs.Kept.{ChangesKept, IsHeld, ReadsKept}
use Rattle.object_dir.specs.KeptDirs.{HasObjects, kept_keeper}
use Rattle.object_dir.specs.Regions.{HasStore, kept_in, region_keeper, store_in}
use Rattle.object_dir.specs.declared.directory.ObjectDir.{ObjectDir}
use Rattle.object_dir.specs.declared.kept_dir.KeptDir.{KeptDir}
use Rattle.object_dir.proofs.AnswerLemmas.{not_both}
use Rattle.object_dir.proofs.CallLemmas.{call_cause, call_damage, call_quiet}
use Rattle.object_dir.proofs.DirectoryLemmas.{applies_noted, store_reads}
use Rattle.object_dir.proofs.FoundLemmas.{IsLawful, answers_working, store_found}
use Rattle.object_dir.proofs.KeptFoundLemmas.{from_found, to_found}

-- the same store without a directory
abbrev as_dir : {V : Type 0} → KeptDir V → ObjectDir V
as_dir d = record { region = d.region; damage_reports = d.damage_reports; change_attempts = d.change_attempts; alloc = d.alloc }

-- an answer is what it is
own_answer : {A : Type 0} (result : Result A StoreAnswer) → Answers result result
own_answer (Ok a) = refl
own_answer (Err NotFound) = refl
own_answer (Err Exists) = refl
own_answer (Err NoSpace) = refl
own_answer (Err Lost) = tt
own_answer (Err Failed) = tt
own_answer (Err (Corrupt tags)) = tt
own_answer (Err (Garbled leaf)) = tt
own_answer (Err NoMemory) = tt

-- who isn't lost after a call wasn't before it
worked_before : (why : Option StoreAnswer) (cold cnew : Condition) → ReadCause why cold cnew → cnew.lost ≡ false → cold.lost ≡ false
worked_before None cold cnew cause works = cause.0
worked_before (Some NotFound) cold cnew cause works = cause.0
worked_before (Some Exists) cold cnew cause works = cause.0
worked_before (Some NoSpace) cold cnew cause works = cause.0
worked_before (Some Lost) cold cnew cause works = not_both cnew.lost cause.1 works
worked_before (Some Failed) cold cnew cause works = cause.0
worked_before (Some (Corrupt tags)) cold cnew cause works = cause.0
worked_before (Some (Garbled leaf)) cold cnew cause works = cause.0
worked_before (Some NoMemory) cold cnew cause works = cause.0

unless_also : {A : Type 0} (result : Result A StoreAnswer) (P Q : Type 0) → (P → Q) → UnlessFailed result P → UnlessFailed result Q
unless_also (Ok a) P Q so p = so p
unless_also (Err NotFound) P Q so p = so p
unless_also (Err Exists) P Q so p = so p
unless_also (Err NoSpace) P Q so p = so p
unless_also (Err Lost) P Q so p = so p
unless_also (Err Failed) P Q so p = tt
unless_also (Err (Corrupt tags)) P Q so p = so p
unless_also (Err (Garbled leaf)) P Q so p = so p
unless_also (Err NoMemory) P Q so p = so p

module _ {V : Type 0} (K : VolumeKeeper V) where
  abbrev HeldOf : KeptDir V → Type 0
  HeldOf d = IsHeld ((K.held d.region.volume.now).leaves d.region.number) d.kept

  module _ (d : KeptDir V) (kept : Contents) where
    just_as : LeavesJust (kept_keeper K) d kept → LeavesJust (dir_keeper K) (as_dir d) kept
    just_as just = record { only = λ o left. just.only o left }

    just_of : LeavesJust (dir_keeper K) (as_dir d) kept → LeavesJust (kept_keeper K) d kept
    just_of just = record { only = λ o left. just.only o left }

  -- a call of the store without a directory, after which the directory that is kept is right
  module _ {A : Type 0} (result : Result A StoreAnswer) (old new : KeptDir V) (right : HasObjects K old → HasStore K new.region → HeldOf new) where
    call_of : (tried : ℕ) → IsCall (dir_keeper K) tried result (as_dir old) (as_dir new) → IsCall (kept_keeper K) tried result old new
    call_of tried call = record {
      model = λ has. (let store = call.model has.store in record { store = store; right = right has store });
      still = λ has lost. call.still has.store lost;
      limits = λ has. call.limits has.store;
      cause = call.cause;
      attempts = call.attempts;
      damage = call.damage;
      below = call.below;
      honest = λ has. (let told = call.honest has.store in (record { store = told.0; right = right has told.0 }, told.1));
      quiet = λ lost. record { same = (call.quiet lost).same; none = λ t o left. (call.quiet lost).none t o left };
      past = λ has. record { later = (call.past has.store).later; past = λ t o le left. (call.past has.store).past t o le left };
    }

    pub reads_of : (stated : Store → Result A StoreAnswer) (Bounds : A → Type 0) → (HasObjects K old → Answers result (stated (kept_in K old.region).store))
        → Reads (dir_keeper K) (λ store. result) Bounds result (as_dir old) (as_dir new) → Reads (kept_keeper K) stated Bounds result old new
    reads_of stated Bounds answer reads = record {
      answer = answer;
      same = λ has. reads.same has.store;
      bounds = reads.bounds;
      call = call_of 0 reads.call;
      crash = λ has just.
          let crash = reads.crash has.store (just_as old (kept_in K old.region) just) in record {
            any_moment = record { later = crash.any_moment.later; each = λ o left. crash.any_moment.each o left; before = λ t o le left. crash.any_moment.before t o le left };
            afterwards = just_of new (kept_in K old.region) crash.afterwards;
          };
    }

module _ {V : Type 0} (K : VolumeKeeper V) (laws : IsLawful K)
    (intact : (v : V) → K.honest v → (K.condition v).lost ≡ false → (region leaf : ℕ) → region < MAX_HOSTS → leaf < K.leaves → K.damage v region leaf ≡ None) where
  module _ (earlier : (v : V) (t u : ℕ) (o : Option Held) → t ≤ u → K.left_since v u o → K.left_since v t o) {A : Type 0} (stated : Store → Result A StoreAnswer) (Bounds : A → Type 0)
      (result : Result A StoreAnswer) (old new : KeptDir V) (why : Option StoreAnswer) (is : why ≡ refusal_of result)
      (reports : new.damage_reports ≡ old.damage_reports + damage_reports why) (attempts : new.change_attempts ≡ old.change_attempts)
      (read : ReadsKept K old.kept new.kept stated Bounds result old.region new.region) where
    held_after : HasObjects K old → HasStore K new.region → HeldOf K new
    held_after has store =
        elim ((K.condition new.region.volume.now).lost) as (λ b. (K.condition new.region.volume.now).lost ≡ b → HeldOf K new) [
          | true ↦ λ e. subst (λ (o : Option Directory). IsHeld ((K.held new.region.volume.now).leaves new.region.number) o) (sym (read.dropped e)) tt
          | false ↦ λ e.
              let works = worked_before (refusal_of result) ((region_keeper K).condition old.region) ((region_keeper K).condition new.region) read.reads.cause e in
              from_found K laws intact new.region store.honest e new.kept
              (read.stays (laws.tells old.region.volume.now has.store.honest) (to_found K laws intact old.region has.store.honest works old.kept has.right))
        ] refl

    told : HasObjects K old → Answers result (stated (kept_in K old.region).store)
    told has =
        let store = store_in old.region.number (K.held old.region.volume.now) in
        answers_working result (stated store) ((region_keeper K).condition old.region) ((region_keeper K).condition new.region) read.reads.cause
        (λ works. subst (λ (s : Store). Answers result (stated s)) (store_found K laws old.region has.store.honest works store has.store.stands)
        (read.answer (laws.tells old.region.volume.now has.store.honest) (to_found K laws intact old.region has.store.honest works old.kept has.right)))

    -- a call that reads
    pub kept_reads : Reads (kept_keeper K) stated Bounds result old new
    kept_reads =
        reads_of K result old new held_after stated Bounds told
        (store_reads K laws earlier (λ store. result) Bounds result (as_dir old) (as_dir new)
        (reports ∙ ap (λ (w : Option StoreAnswer). old.damage_reports + damage_reports w) is) attempts (λ has. own_answer result) read.bounds read.garbled read.reads)

  module _ (rests : (v : V) → K.honest v → (K.condition v).lost ≡ false → RestsAt K v (K.held v)) (c : Change) (result : Result (Unit {0}) StoreAnswer) (old new : KeptDir V)
      (why : Option StoreAnswer) (is : why ≡ refusal_of result) (reports : new.damage_reports ≡ old.damage_reports + damage_reports why)
      (attempts : new.change_attempts ≡ old.change_attempts + 1) (made : ChangesKept K old.kept new.kept c result old.region new.region) where
    -- as without a directory, where the one that was kept is right
    whole : HasObjects K old → Applies (dir_keeper K) c result (as_dir old) (as_dir new)
    whole has =
        applies_noted K laws rests c result (as_dir old) (as_dir new) why is reports attempts
        (made.made (λ t works. to_found K laws intact old.region has.store.honest works old.kept has.right))

    objects : HasObjects K old → HasObjects K new
    objects has = record { store = (whole has).call.model has.store; right = made.right has.store has.right }

    call : IsCall (kept_keeper K) 1 result old new
    call = record {
      model = objects;
      still = λ has lost. (whole has).call.still has.store lost;
      limits = λ has. (whole has).call.limits has.store;
      cause = call_cause K result 1 (as_dir old) (as_dir new) made.once.call (reports ∙ ap (λ (w : Option StoreAnswer). old.damage_reports + damage_reports w) is);
      attempts = attempts;
      damage = call_damage K result 1 (as_dir old) (as_dir new) made.once.call;
      below = made.once.call.below;
      honest = λ has. (objects has, ((whole has).call.honest has.store).1);
      quiet = λ lost.
          let quiet = call_quiet K result 1 (as_dir old) (as_dir new) made.once.call lost in
          record { same = quiet.same; none = λ t o left. quiet.none t o left };
      past = λ has. (let past = (whole has).call.past has.store in record { later = past.later; past = λ t o le left. past.past t o le left });
    }

    -- a call that changes
    pub kept_applies : Applies (kept_keeper K) c result old new
    kept_applies = record {
      applied = λ has. (whole has).applied has.store;
      call = call;
      crash = λ has just.
          let crash = (whole has).crash has.store (just_as K old (kept_in K old.region) just) in record {
            any_moment = record { later = crash.any_moment.later; each = λ o left. crash.any_moment.each o left; before = λ t o le left. crash.any_moment.before t o le left };
            afterwards = unless_also result (LeavesJust (dir_keeper K) (as_dir new) (kept_in K new.region)) (LeavesJust (kept_keeper K) new (kept_in K new.region))
                (just_of K new (kept_in K new.region)) crash.afterwards;
          };
    }
