-- What the calls of the objects of a region promise as a store.
use Rattle.std.proofs.Common.{◌≡◌, ◌≤◌, ◌+◌, ℕ, true, false, Option, Some, Result, Ok, Err, refl, sym, ap, ◌∙◌, subst, arith}
use Rattle.std.specs.Prelude.{IfOk}
use Rattle.tee_base.specs.Crash.{LeavesOnly}
use Rattle.tee_base.proofs.Crash.{weaker}
use Rattle.store_api.specs.declared.answer.StoreAnswer.{StoreAnswer}
use Rattle.store_api.specs.declared.answer.StoreAnswer.TheVariants.{NotFound, Exists, NoSpace, Lost, Failed, Corrupt, Garbled, NoMemory}
use Rattle.store_api.specs.declared.change.Change.{Change}
use Rattle.store_api.specs.Keeping.{Answers, Applied, Applies, Contents, CrashChanges, CrashLeaves, LeavesJust, LeftByChange, Reads, UnlessFailed}
use Rattle.store_api.specs.Stores.{Store, change}
use Rattle.store_api.specs.Volumes.{Condition, Held, RestsAt, VolumeKeeper}
use Rattle.region_plan.specs.Reading.{IfGarbled, IsBroken, ReadCause, ReadsOnly, ReadsRegion, refusal_of}
use Rattle.object_dir.specs.Changing.{ChangesRegion, IsRegionCall}
use Rattle.object_dir.specs.Directories.{damage_reports, dir_keeper}
use Rattle.object_dir.specs.Regions.{in_use, HasStore, kept_in, number_of, region_keeper, remains_in, store_in}
use Rattle.object_dir.specs.declared.directory.ObjectDir.{ObjectDir}
use Rattle.object_dir.proofs.AnswerLemmas.{left_before, not_both}
use Rattle.object_dir.proofs.FoundLemmas.{IsLawful, answers_working, store_found}
use Rattle.object_dir.proofs.CallLemmas.{from_reads, lost_just, lost_leaves, of_store, reads_stand, store_call}
use Rattle.object_dir.specs.Laws.{reads_back}
use Rattle.object_dir.proofs.HeldLemmas.{same_contents}

-- a change over a volume that is lost: nothing is changed
same_when_lost : {A : Type 0} (result : Result A StoreAnswer) (cold cnew : Condition) (stated : Result Store StoreAnswer) (old new : Contents) → cold.lost ≡ true
    → ReadCause (refusal_of result) cold cnew → Applied result stated old new → new ≡ old
same_when_lost (Ok a) cold cnew stated old new lost cause applied = not_both cold.lost lost cause.0
same_when_lost (Err refusal) cold cnew stated old new lost cause applied = applied.1

-- a change after which the volume is lost: nothing is changed
still_when_lost : {A : Type 0} (result : Result A StoreAnswer) (cold cnew : Condition) (stated : Result Store StoreAnswer) (old new : Contents) → cnew.lost ≡ true
    → ReadCause (refusal_of result) cold cnew → Applied result stated old new → new ≡ old
still_when_lost (Ok a) cold cnew stated old new lost cause applied = not_both cnew.lost lost cause.1
still_when_lost (Err refusal) cold cnew stated old new lost cause applied = applied.1

-- a change that ends over a volume that works, or failed
when_it_works : {A : Type 0} (result : Result A StoreAnswer) (cold cnew : Condition) (fact : Type 0) → cold.lost ≡ false → ReadCause (refusal_of result) cold cnew → (cnew.lost ≡ false → fact)
    → UnlessFailed result fact
when_it_works (Ok a) cold cnew fact works cause so = so cause.1
when_it_works (Err NotFound) cold cnew fact works cause so = so cause.1
when_it_works (Err Exists) cold cnew fact works cause so = so cause.1
when_it_works (Err NoSpace) cold cnew fact works cause so = so cause.1
when_it_works (Err Lost) cold cnew fact works cause so = not_both cold.lost cause.0 works
when_it_works (Err Failed) cold cnew fact works cause so = tt
when_it_works (Err (Corrupt tags)) cold cnew fact works cause so = so cause.1
when_it_works (Err (Garbled leaf)) cold cnew fact works cause so = so cause.1
when_it_works (Err NoMemory) cold cnew fact works cause so = so cause.1

always_unless : {A : Type 0} (result : Result A StoreAnswer) (fact : Type 0) → fact → UnlessFailed result fact
always_unless (Ok a) fact is = is
always_unless (Err NotFound) fact is = is
always_unless (Err Exists) fact is = is
always_unless (Err NoSpace) fact is = is
always_unless (Err Lost) fact is = is
always_unless (Err Failed) fact is = tt
always_unless (Err (Corrupt tags)) fact is = is
always_unless (Err (Garbled leaf)) fact is = is
always_unless (Err NoMemory) fact is = is

module _ {V : Type 0} (K : VolumeKeeper V) (laws : IsLawful K) where
  -- a call that reads the objects of a region
  module _ (earlier : (v : V) (t u : ℕ) (o : Option Held) → t ≤ u → K.left_since v u o → K.left_since v t o) {A : Type 0} (stated : Store → Result A StoreAnswer) (Bounds : A → Type 0)
      (result : Result A StoreAnswer) (old new : ObjectDir V)
      (reports : new.damage_reports ≡ old.damage_reports + damage_reports (refusal_of result)) (attempts : new.change_attempts ≡ old.change_attempts)
      (answer : HasStore K old.region → Answers result (stated (kept_in K old.region).store)) (bounds : IfOk result (λ a. Bounds a))
      (garbled : IfGarbled (refusal_of result) (λ leaf. IsBroken (region_keeper K) number_of in_use old.region leaf))
      (reads : ReadsOnly (region_keeper K) number_of (refusal_of result) old.region new.region) where
    read_call : IsRegionCall K (refusal_of result) old.region new.region
    read_call = from_reads K (refusal_of result) old.region new.region reads garbled

    read_leaves : HasStore K old.region → (K.condition old.region.volume.now).lost ≡ false → LeavesOnly (dir_keeper K).moment (dir_keeper K).left_since old new (λ o. o ≡ Some (kept_in K old.region))
    read_leaves has works =
        of_store K result 0 old new read_call (λ o. o ≡ Some (kept_in K old.region))
        (weaker (region_keeper K).moment (region_keeper K).left_since old.region new.region (λ o. o ≡ Some (K.held old.region.volume.now))
        (λ o. remains_in new.region.number o ≡ Some (kept_in K old.region))
        (λ o is. ap (λ (k : ℕ). remains_in k o) reads.same_region
        ∙ (ap (λ (x : Option Held). remains_in old.region.number x) is ∙ reads_back old.region.number (K.held old.region.volume.now) has.stands))
        (reads.crash has.honest works))

    read_crash : HasStore K old.region → LeavesJust (dir_keeper K) old (kept_in K old.region) → CrashLeaves (dir_keeper K) (kept_in K old.region) old new
    read_crash has just =
        elim ((K.condition old.region.volume.now).lost) as (λ b. (K.condition old.region.volume.now).lost ≡ b → CrashLeaves (dir_keeper K) (kept_in K old.region) old new) [
          | true ↦ λ e. record {
            any_moment = lost_leaves K result 0 old new read_call e (kept_in K old.region) just;
            afterwards = lost_just K result 0 old new read_call e (kept_in K old.region)
                just;
          }
          | false ↦ λ e. record {
            any_moment = read_leaves has e;
            afterwards = record {
              only = λ o left. (read_leaves has e).each o
                  (left.0, earlier new.region.volume.now (K.moment old.region.volume.now) (K.moment new.region.volume.now) left.0 (read_leaves has e).later left.1, left.2);
            };
          }
        ] refl

    pub store_reads : Reads (dir_keeper K) stated Bounds result old new
    store_reads = record {
      answer = answer;
      same = λ has. same_contents new.region.number old.region.number (K.held new.region.volume.now) (K.held old.region.volume.now) reads.same_region (reads.same has.honest);
      bounds = bounds;
      call = store_call K result 0 old new read_call laws (reads_stand K (refusal_of result) old.region new.region reads)
          (λ has lost. same_contents new.region.number old.region.number (K.held new.region.volume.now) (K.held old.region.volume.now) reads.same_region
          (reads.same has.honest)) reports (let e = attempts in omega arith);
      crash = read_crash;
    }

  -- a call that changes the objects of a region
  module _ (rests : (v : V) → K.honest v → (K.condition v).lost ≡ false → RestsAt K v (K.held v)) (c : Change) (result : Result (Unit {0}) StoreAnswer) (old new : ObjectDir V)
      (reports : new.damage_reports ≡ old.damage_reports + damage_reports (refusal_of result))
      (attempts : new.change_attempts ≡ old.change_attempts + 1) (made : ChangesRegion K c result old.region new.region) where
    -- afterwards a crash leaves what is kept
    made_just : HasStore K new.region → (K.condition new.region.volume.now).lost ≡ false → LeavesJust (dir_keeper K) new (kept_in K new.region)
    made_just has works = record {
      only = λ o left.
          left.2
          ∙ (ap (λ (x : Option Held). remains_in new.region.number x) ((rests new.region.volume.now has.honest works).only left.0 left.1)
          ∙ reads_back new.region.number (K.held new.region.volume.now) has.stands);
    }

    made_crash : HasStore K old.region → LeavesJust (dir_keeper K) old (kept_in K old.region) → CrashChanges (dir_keeper K) result (change (kept_in K old.region).store c) old new
    made_crash has just =
        elim ((K.condition old.region.volume.now).lost) as (λ b. (K.condition old.region.volume.now).lost ≡ b → CrashChanges (dir_keeper K) result (change (kept_in K old.region).store c) old new) [
          | true ↦ λ e. record {
            any_moment = weaker (dir_keeper K).moment (dir_keeper K).left_since old new (λ o. o ≡ Some (kept_in K old.region))
                (LeftByChange result (kept_in K old.region) (change (kept_in K old.region).store c)) (λ o is. left_before result (kept_in K old.region) (change (kept_in K old.region).store c) o is)
                (lost_leaves K result 1 old new made.call e (kept_in K old.region) just);
            afterwards = always_unless result (LeavesJust (dir_keeper K) new (kept_in K new.region))
                (subst (λ (x : Contents). LeavesJust (dir_keeper K) new x)
                (sym (same_when_lost result ((region_keeper K).condition old.region) ((region_keeper K).condition new.region) (change (kept_in K old.region).store c) (kept_in K old.region)
                (kept_in K new.region) e made.call.cause (made.applied has)))
                (lost_just K result 1 old new made.call e (kept_in K old.region) just));
          }
          | false ↦ λ e. record {
            any_moment = of_store K result 1 old new made.call (LeftByChange result (kept_in K old.region) (change (kept_in K old.region).store c)) (made.crash has e);
            afterwards = when_it_works result ((region_keeper K).condition old.region) ((region_keeper K).condition new.region) (LeavesJust (dir_keeper K) new (kept_in K new.region)) e made.call.cause
                (made_just (made.stands has));
          }
        ] refl

    pub store_applies : Applies (dir_keeper K) c result old new
    store_applies = record {
      applied = made.applied;
      call = store_call K result 1 old new made.call laws made.stands
          (λ has lost. still_when_lost result ((region_keeper K).condition old.region) ((region_keeper K).condition new.region) (change (kept_in K old.region).store c)
          (kept_in K old.region) (kept_in K new.region) lost made.call.cause (made.applied has)) reports attempts;
      crash = made_crash;
    }

  -- the same where a refusal was noted
  pub reads_noted : (earlier : (v : V) (t u : ℕ) (o : Option Held) → t ≤ u → K.left_since v u o → K.left_since v t o) {A : Type 0} (stated : Store → Result A StoreAnswer) (Bounds : A → Type 0)
      (result : Result A StoreAnswer) (old new : ObjectDir V) (why : Option StoreAnswer)
      → why ≡ refusal_of result → new.damage_reports ≡ old.damage_reports + damage_reports why → new.change_attempts ≡ old.change_attempts
      → ReadsRegion (region_keeper K) number_of in_use stated Bounds result old.region new.region → Reads (dir_keeper K) stated Bounds result old new
  reads_noted earlier stated Bounds result old new why is reports attempts read =
      store_reads earlier stated Bounds result old new
      (reports ∙ ap (λ (w : Option StoreAnswer). old.damage_reports + damage_reports w) is) attempts
      (λ has.
      let store = store_in old.region.number (K.held old.region.volume.now) in
      answers_working result (stated store) ((region_keeper K).condition old.region) ((region_keeper K).condition new.region) read.reads.cause
      (λ works. subst (λ (s : Store). Answers result (stated s)) (store_found K laws old.region has.honest works store has.stands)
      (read.answer (laws.tells old.region.volume.now has.honest)))) read.bounds read.garbled read.reads

  pub applies_noted : (rests : (v : V) → K.honest v → (K.condition v).lost ≡ false → RestsAt K v (K.held v)) (c : Change) (result : Result (Unit {0}) StoreAnswer) (old new : ObjectDir V)
      (why : Option StoreAnswer)
      → why ≡ refusal_of result → new.damage_reports ≡ old.damage_reports + damage_reports why → new.change_attempts ≡ old.change_attempts + 1
      → ChangesRegion K c result old.region new.region → Applies (dir_keeper K) c result old new
  applies_noted rests c result old new why is reports attempts made =
      store_applies rests c result old new
      (reports ∙ ap (λ (w : Option StoreAnswer). old.damage_reports + damage_reports w) is) attempts made
