-- Reads of leaves, one after another.
use Rattle.std.specs.Prelude.{IsTrue}
use Rattle.std.proofs.Common.{◌≡◌, ◌≤◌, ◌<◌, ℕ, List, true, false, Bool, Option, None, Some, ⊎_elim, inl, inr, refl, sym, ◌∙◌, ap, subst, arith}
use Rattle.tee_base.specs.Crash.{LeavesOnly}
use Rattle.tee_base.specs.Faults.{Rose}
use Rattle.tee_base.proofs.Crash.{joined, started}
use Rattle.store_api.specs.declared.answer.Mismatch.{Mismatch}
use Rattle.store_api.specs.declared.answer.StoreAnswer.{StoreAnswer}
use Rattle.store_api.specs.declared.answer.StoreAnswer.TheVariants as answers
use Rattle.store_api.specs.Volumes.{Held, Condition, VolumeKeeper, RestsAt}
use Rattle.region_plan.specs.Reading.{ReadsOnly, ReadCause, IfCorrupt, UnlessFailed, leaves_of}

not_both : {A : Type 0} (b : Bool) → b ≡ true → b ≡ false → A
not_both b yes' no' = absurd (let e : true ≡ false = sym yes' ∙ no' in cc)

rose_later : (a b c : ℕ) → a ≤ b → Rose b c → Rose a c
rose_later a b c le rose = ⊎_elim (λ (l : b < c). inl (omega arith)) (λ top. inr top) rose

-- the cause of a run's end, over a run before it
cause_joined : (why : Option StoreAnswer) (old mid new : Condition) → ReadCause None old mid → old.faults ≤ mid.faults → ReadCause why mid new → ReadCause why old new
cause_joined None old mid new one later two = (one.0, two.1)
cause_joined (Some answers.NotFound) old mid new one later two = (one.0, two.1)
cause_joined (Some answers.Exists) old mid new one later two = (one.0, two.1)
cause_joined (Some answers.NoSpace) old mid new one later two = (one.0, two.1)
cause_joined (Some answers.Lost) old mid new one later two = not_both mid.lost two.0 one.1
cause_joined (Some answers.Failed) old mid new one later two = (one.0, two.1, rose_later old.faults mid.faults new.faults later two.2)
cause_joined (Some (answers.Corrupt tags)) old mid new one later two = (one.0, two.1, two.2)
cause_joined (Some (answers.Garbled leaf)) old mid new one later two = (one.0, two.1)
cause_joined (Some answers.NoMemory) old mid new one later two = (one.0, two.1)

-- nothing failed in a run of which neither part failed
unfailed_joined : (why : Option StoreAnswer) (a b c : ℕ) → b ≡ a → UnlessFailed why (c ≡ b) → UnlessFailed why (c ≡ a)
unfailed_joined None a b c one two = two ∙ one
unfailed_joined (Some answers.NotFound) a b c one two = two ∙ one
unfailed_joined (Some answers.Exists) a b c one two = two ∙ one
unfailed_joined (Some answers.NoSpace) a b c one two = two ∙ one
unfailed_joined (Some answers.Lost) a b c one two = two ∙ one
unfailed_joined (Some answers.Failed) a b c one two = tt
unfailed_joined (Some (answers.Corrupt tags)) a b c one two = two ∙ one
unfailed_joined (Some (answers.Garbled leaf)) a b c one two = two ∙ one
unfailed_joined (Some answers.NoMemory) a b c one two = two ∙ one

corrupt_same : (why : Option StoreAnswer) (P Q : Mismatch → Type 0) → ((tags : Mismatch) → P tags → Q tags) → IfCorrupt why P → IfCorrupt why Q
corrupt_same None P Q implies is = tt
corrupt_same (Some answers.NotFound) P Q implies is = tt
corrupt_same (Some answers.Exists) P Q implies is = tt
corrupt_same (Some answers.NoSpace) P Q implies is = tt
corrupt_same (Some answers.Lost) P Q implies is = tt
corrupt_same (Some answers.Failed) P Q implies is = tt
corrupt_same (Some (answers.Corrupt tags)) P Q implies is = implies tags is
corrupt_same (Some (answers.Garbled leaf)) P Q implies is = tt
corrupt_same (Some answers.NoMemory) P Q implies is = tt

module _ {S : Type 0} (K : VolumeKeeper S) (region : S → ℕ) where
  -- one run after another
  pub reads_joined : (why : Option StoreAnswer) (old mid new : S) → ReadsOnly K region None old mid → ReadsOnly K region why mid new → ReadsOnly K region why old new
  reads_joined why old mid new one two = record {
    cause = cause_joined why (K.condition old) (K.condition mid) (K.condition new) one.cause one.later two.cause;
    later = omega (arith, one.later, two.later);
    unfailed = unfailed_joined why (K.condition old).faults (K.condition mid).faults (K.condition new).faults one.unfailed two.unfailed;
    writes = two.writes ∙ one.writes;
    foundation = two.foundation ∙ one.foundation;
    same_region = two.same_region ∙ one.same_region;
    sequence = two.sequence ∙ one.sequence;
    same = λ h. two.same (one.honest h).0 ∙ one.same h;
    below = λ b. two.below (one.below b);
    honest = λ h. two.honest (one.honest h).0;
    text = λ t. two.text t ∙ one.text t;
    damage = λ t. two.damage t ∙ one.damage t;
    shows = two.shows;
    quiet = λ lost. not_both (K.condition old).lost lost one.cause.0;
    past = λ h t o le left.
        let later : K.moment old ≤ K.moment mid = (one.crash h one.cause.0).later in
        two.past (one.honest h).0 t o (omega (arith, le, later)) (one.past h t o le left);
    crash = λ h works.
        joined K.moment K.left_since old mid new (λ o. o ≡ Some (K.held old)) (one.crash h works)
        (subst (λ (x : Held). LeavesOnly K.moment K.left_since mid new (λ o. o ≡ Some x)) (one.same h) (two.crash (one.honest h).0 one.cause.1));
  }

  -- before the first read
  pub reads_started : (s : S) → (K.condition s).lost ≡ false → (K.honest s → (K.condition s).lost ≡ false → RestsAt K s (K.held s)) → ReadsOnly K region None s s
  reads_started s works rests = record {
    cause = (works, works);
    later = omega arith;
    unfailed = refl;
    writes = refl;
    foundation = refl;
    same_region = refl;
    sequence = refl;
    same = λ h. refl;
    below = λ b. b;
    honest = λ h. (h, tt);
    text = λ t. refl;
    damage = λ t. refl;
    shows = λ t. tt;
    quiet = λ lost. not_both (K.condition s).lost lost works;
    past = λ h t o le left. left;
    crash = λ h w. started K.moment K.left_since s (λ o. o ≡ Some (K.held s)) (rests h w).only;
  }

  -- no read of what is lost already
  pub reads_lost : (s : S) → (K.condition s).lost ≡ true → ReadsOnly K region (Some answers.Lost) s s
  reads_lost s lost = record {
    cause = (lost, lost);
    later = omega arith;
    unfailed = refl;
    writes = refl;
    foundation = refl;
    same_region = refl;
    sequence = refl;
    same = λ h. refl;
    below = λ b. b;
    honest = λ h. (h, tt);
    text = λ t. refl;
    damage = λ t. refl;
    shows = λ t. tt;
    quiet = λ l. record { same = refl; none = λ t o left. left };
    past = λ h t o le left. left;
    crash = λ h works. not_both (K.condition s).lost lost works;
  }

  -- a run whose end has another reason, of the caller's own
  pub reads_refused : (why : Option StoreAnswer) (old new : S) → (ReadCause None (K.condition old) (K.condition new) → ReadCause why (K.condition old) (K.condition new))
      → ((P : Mismatch → Type 0) → IfCorrupt why P) → ((P : Type 0) → P → UnlessFailed why P) → ReadsOnly K region None old new → ReadsOnly K region why old new
  reads_refused why old new cause intact unfailed run = record {
    cause = cause run.cause;
    later = run.later;
    unfailed = unfailed _ run.unfailed;
    writes = run.writes;
    foundation = run.foundation;
    same_region = run.same_region;
    sequence = run.sequence;
    same = run.same;
    below = run.below;
    honest = λ h. ((run.honest h).0, intact (λ tags. ⊥));
    text = run.text;
    damage = run.damage;
    shows = λ t. intact _;
    quiet = run.quiet;
    past = run.past;
    crash = run.crash;
  }

  pub reads_not_found : (old new : S) → ReadsOnly K region None old new → ReadsOnly K region (Some answers.NotFound) old new
  reads_not_found old new run = reads_refused (Some answers.NotFound) old new (λ c. c) (λ P. tt) (λ P p. p) run

  pub reads_garbled : (leaf : ℕ) (old new : S) → ReadsOnly K region None old new → ReadsOnly K region (Some (answers.Garbled leaf)) old new
  reads_garbled leaf old new run = reads_refused (Some (answers.Garbled leaf)) old new (λ c. c) (λ P. tt) (λ P p. p) run

  pub reads_no_memory : (old new : S) → ReadsOnly K region None old new → ReadsOnly K region (Some answers.NoMemory) old new
  reads_no_memory old new run = reads_refused (Some answers.NoMemory) old new (λ c. c) (λ P. tt) (λ P p. p) run

  -- the leaves stay as they are found, and so does their damage
  pub leaves_stay : (old new : S) → ReadsOnly K region None old new → IsTrue K.tells_reads → leaves_of K region new ≡ leaves_of K region old
  leaves_stay old new run t = ap (λ (text : ℕ → ℕ → List ℕ). text (region new)) (run.text t) ∙ ap (λ (r : ℕ). K.text old r) run.same_region

  pub damage_stays : (old new : S) → ReadsOnly K region None old new → IsTrue K.tells_reads → K.damage new (region new) ≡ K.damage old (region old)
  damage_stays old new run t = ap (λ (damage : ℕ → ℕ → Option Mismatch). damage (region new)) (run.damage t) ∙ ap (λ (r : ℕ). K.damage old r) run.same_region
