-- What a call of a store in memory promises as a keeper, from what the store is before and after it.
use Rattle.std.proofs.Common.{◌≡◌, ◌≤◌, ◌+◌, ◌⊎◌, ℕ, Bool, true, false, List, ◌∷◌, Result, Ok, Err, Some, IfOk, length, inl, inr, ⊎_elim, ap, subst, sym, ◌∙◌, refl, arith}
use Rattle.tee_base.specs.Faults.{Rose}
use Rattle.store_api.specs.declared.answer.StoreAnswer.{StoreAnswer}
use Rattle.store_api.specs.declared.answer.StoreAnswer.TheVariants.{NotFound, Exists, NoSpace, Lost, Failed, Corrupt, Garbled, NoMemory}
use Rattle.store_api.specs.declared.change.Change.{Change}
use Rattle.store_api.specs.Stores.{Store, change}
use Rattle.store_api.specs.Limits.{IsWithinLimits, IsChange}
use Rattle.tee_base.proofs.Crash.{weaker}
use Rattle.store_api.specs.Keeping.{Answers, Applies, Cause, Contents, IsCall, IsIntact, KeepsPast, LeavesJust, LeavesNothingNew, LeftByChange, CrashLeaves, Reads, Remains, UnlessFailed, damage_in}
use Rattle.store_api.specs.Objects.{Changes}
use Rattle.store_api.specs.MapStores.{MapState, Begins, IsOwn, LeftBefore, contents_of, left_of, map_keeper, moment_of, status_of}
use Rattle.store_api.proofs.ChangeLaws.{keeps_limits}
use Rattle.store_api.proofs.History.{made_crash, made_past}

-- an answer that tells of no damage adds nothing to the reports
intact_reports : {A : Type 0} (result : Result A StoreAnswer) → IsIntact result → damage_in result ≡ 0
intact_reports (Ok a) h = refl
intact_reports (Err NotFound) h = refl
intact_reports (Err Exists) h = refl
intact_reports (Err NoSpace) h = refl
intact_reports (Err Lost) h = refl
intact_reports (Err Failed) h = refl
intact_reports (Err (Corrupt tags)) h = absurd h
intact_reports (Err (Garbled leaf)) h = absurd h
intact_reports (Err NoMemory) h = refl

own_intact : {A : Type 0} (result : Result A StoreAnswer) → IsOwn result → IsIntact result
own_intact (Ok a) h = tt
own_intact (Err NotFound) h = tt
own_intact (Err Exists) h = tt
own_intact (Err NoSpace) h = tt
own_intact (Err Lost) h = tt
own_intact (Err Failed) h = tt
own_intact (Err (Corrupt tags)) h = h
own_intact (Err (Garbled leaf)) h = h
own_intact (Err NoMemory) h = tt

own_cause : {A : Type 0} (result : Result A StoreAnswer) (old new : MapState) → IsOwn result → old.lost ≡ false → new.lost ≡ false → Cause result (status_of old) (status_of new)
own_cause (Ok a) old new h e f = (e, f)
own_cause (Err NotFound) old new h e f = (e, f)
own_cause (Err Exists) old new h e f = (e, f)
own_cause (Err NoSpace) old new h e f = (e, f)
own_cause (Err Lost) old new h e f = absurd h
own_cause (Err Failed) old new h e f = absurd h
own_cause (Err (Corrupt tags)) old new h e f = absurd h
own_cause (Err (Garbled leaf)) old new h e f = absurd h
own_cause (Err NoMemory) old new h e f = (e, f)

-- what holds anyway holds unless the call failed
pub unless_failed : {A : Type 0} (result : Result A StoreAnswer) (fact : Type 0) → fact → UnlessFailed result fact
unless_failed (Ok a) fact holds = holds
unless_failed (Err NotFound) fact holds = holds
unless_failed (Err Exists) fact holds = holds
unless_failed (Err NoSpace) fact holds = holds
unless_failed (Err Lost) fact holds = holds
unless_failed (Err Failed) fact holds = tt
unless_failed (Err (Corrupt tags)) fact holds = holds
unless_failed (Err (Garbled leaf)) fact holds = holds
unless_failed (Err NoMemory) fact holds = holds

-- a call after which the store and its past are as before
module _ (old new : MapState) (store : new.store ≡ old.store) (past : new.past ≡ old.past) where
  same_contents : contents_of new ≡ contents_of old
  same_contents = λ i. record { store = store i; rest = (contents_of old).rest; number = length (past i) }

  same_moment : moment_of new ≡ moment_of old
  same_moment = ap length past

  as_before : (t : ℕ) (o : Remains) → left_of new t o → left_of old t o
  as_before t o left = ⊎_elim (λ now. inl (now ∙ ap Some same_contents)) (λ was. inr (subst (λ l. LeftBefore l t o) past was)) left

  as_after : (t : ℕ) (o : Remains) → left_of old t o → left_of new t o
  as_after t o left = ⊎_elim (λ now. inl (now ∙ ap Some (sym same_contents))) (λ was. inr (subst (λ l. LeftBefore l t o) (sym past) was)) left

  nothing_new : LeavesNothingNew map_keeper old new
  nothing_new = record { same = same_moment; none = as_before }

  past_kept : KeepsPast map_keeper old new
  past_kept = record { later = omega (arith, same_moment); past = λ t o le left. as_after t o left }

  still_just : LeavesJust map_keeper old (contents_of old) → LeavesJust map_keeper new (contents_of old)
  still_just just = record { only = λ o left. just.only o (subst (λ t. left_of old t o) same_moment (as_before (moment_of new) o left)) }

  crash_leaves : LeavesJust map_keeper old (contents_of old) → CrashLeaves map_keeper (contents_of old) old new
  crash_leaves just = record {
    any_moment = record {
      later = omega (arith, same_moment);
      each = λ o left. just.only o (as_before (moment_of old) o left);
      before = λ t o le left. inl (as_before t o left);
    };
    afterwards = still_just just;
  }

module _ {A : Type 0} (result : Result A StoreAnswer) (tried : ℕ) (old new : MapState) (limits : IsWithinLimits old.store) (store : new.store ≡ old.store)
    (past : new.past ≡ old.past) (intact : IsIntact result) where
  -- what every call promises
  unchanged_call : Cause result (status_of old) (status_of new) → old.plan.faults ≤ new.plan.faults → UnlessFailed result (new.plan.faults ≡ old.plan.faults)
      → new.change_attempts ≡ old.change_attempts + tried → IsCall map_keeper tried result old new
  unchanged_call cause later unfailed attempts = record {
    model = λ _. tt;
    still = λ _ _. same_contents old new store past;
    limits = λ _. (limits, subst IsWithinLimits (sym store) limits);
    cause = record { cause = cause; later = later; unfailed = unfailed; foundation = refl; reports = omega (arith, intact_reports result intact) };
    attempts = attempts;
    damage = intact;
    below = λ _. tt;
    honest = λ _. (tt, intact);
    quiet = λ _. nothing_new old new store past;
    past = λ _. past_kept old new store past;
  }

-- a reading call
module _ {A : Type 0} (stated : Store → Result A StoreAnswer) (Bounds : A → Type 0) (old new : MapState) (limits : IsWithinLimits old.store) where
  reads_by : (result : Result A StoreAnswer) → new.store ≡ old.store → new.past ≡ old.past → Answers result (stated old.store) → IfOk result (λ a. Bounds a) →
      IsCall map_keeper 0 result old new → Reads map_keeper stated Bounds result old new
  reads_by result store past answer bounds call = record {
    answer = λ _. answer;
    same = λ _. same_contents old new store past;
    bounds = bounds;
    call = call;
    crash = λ _ just. crash_leaves old new store past just;
  }

  -- one that is kept from its answer
  pub kept_back : (e : StoreAnswer) → Begins {A = Unit {0}} (Err e) old new → old.plan.faults ≤ new.plan.faults → (e ≡ Failed → Rose old.plan.faults new.plan.faults) →
      Reads map_keeper stated Bounds (Err e) old new
  kept_back Failed begun later rose =
      let is = begun.2 in
      reads_by (Err Failed) (ap (λ (s : MapState). s.store) is) (ap (λ (s : MapState). s.past) is) tt tt
      (unchanged_call (Err Failed) 0 old new limits (ap (λ (s : MapState). s.store) is) (ap (λ (s : MapState). s.past) is) tt
      (begun.0, ap (λ (s : MapState). s.lost) is, rose refl) later tt (omega (arith, ap (λ (s : MapState). s.change_attempts) is)))
  kept_back Lost begun later rose =
      let is = begun.1 in
      reads_by (Err Lost) (ap (λ (s : MapState). s.store) is) (ap (λ (s : MapState). s.past) is) tt tt
      (unchanged_call (Err Lost) 0 old new limits (ap (λ (s : MapState). s.store) is) (ap (λ (s : MapState). s.past) is) tt
      (begun.0, ap (λ (s : MapState). s.lost) is ∙ begun.0) later (ap (λ (s : MapState). s.plan.faults) is) (omega (arith, ap (λ (s : MapState). s.change_attempts) is)))
  kept_back NotFound begun later rose = absurd begun
  kept_back Exists begun later rose = absurd begun
  kept_back NoSpace begun later rose = absurd begun
  kept_back (Corrupt tags) begun later rose = absurd begun
  kept_back (Garbled leaf) begun later rose = absurd begun
  kept_back NoMemory begun later rose = absurd begun

  -- one that is made
  pub served : (result : Result A StoreAnswer) → Begins {A = Unit {0}} (Ok tt) old new → old.plan.faults ≤ new.plan.faults → IsOwn result → Answers result (stated new.store) →
      IfOk result (λ a. Bounds a) → Reads map_keeper stated Bounds result old new
  served result begun later own answer bounds =
      let is = begun.2 in
      let store : new.store ≡ old.store = ap (λ (s : MapState). s.store) is in
      let past : new.past ≡ old.past = ap (λ (s : MapState). s.past) is in
      reads_by result store past (subst (λ m. Answers result (stated m)) store answer) bounds
      (unchanged_call result 0 old new limits store past (own_intact result own)
      (own_cause result old new own begun.0 (ap (λ (s : MapState). s.lost) is ∙ begun.0)) later
      (unless_failed result (new.plan.faults ≡ old.plan.faults) (ap (λ (s : MapState). s.plan.faults) is)) (omega (arith, ap (λ (s : MapState). s.change_attempts) is)))

-- a change that was not made leaves the same as was kept before
left_refused : (e : StoreAnswer) (old : Contents) (stated : Result Store StoreAnswer) (o : Remains) → o ≡ Some old → LeftByChange {A = Unit {0}} (Err e) old stated o
left_refused NotFound old stated o is = is
left_refused Exists old stated o is = is
left_refused NoSpace old stated o is = is
left_refused Lost old stated o is = is
left_refused Failed old stated o is = inl is
left_refused (Corrupt tags) old stated o is = is
left_refused (Garbled leaf) old stated o is = is
left_refused NoMemory old stated o is = is

module _ (c : Change) (old new : MapState) (limits : IsWithinLimits old.store) where
  -- a change that was not made
  refused_by : (e : StoreAnswer) → new.store ≡ old.store → new.past ≡ old.past → Answers {A = Store} (Err e) (change old.store c) →
      IsCall map_keeper {A = Unit {0}} 1 (Err e) old new → Applies map_keeper {A = Unit {0}} c (Err e) old new
  refused_by e store past answer call =
      let same = same_contents old new store past in
      record {
        applied = λ _. (answer, same);
        call = call;
        crash = λ _ just. let left = crash_leaves old new store past just in record {
          any_moment = weaker moment_of left_of old new (λ o. o ≡ Some (contents_of old)) (LeftByChange {A = Unit {0}} (Err e) (contents_of old) (change old.store c))
              (λ o is. left_refused e (contents_of old) (change old.store c) o is) left.any_moment;
          afterwards = unless_failed {A = Unit {0}} (Err e) _ (subst (λ k. LeavesJust map_keeper new k) (sym same) left.afterwards);
        };
      }

  -- one that is kept from being made
  pub change_kept_back : (e : StoreAnswer) → Begins {A = Unit {0}} (Err e) (record old { change_attempts = old.change_attempts + 1 }) new → old.plan.faults ≤ new.plan.faults →
      (e ≡ Failed → Rose old.plan.faults new.plan.faults) → Applies map_keeper {A = Unit {0}} c (Err e) old new
  change_kept_back Failed begun later rose =
      let is = begun.2 in
      let store : new.store ≡ old.store = ap (λ (s : MapState). s.store) is in
      let past : new.past ≡ old.past = ap (λ (s : MapState). s.past) is in
      refused_by Failed store past tt (unchanged_call (Err Failed) 1 old new limits store past tt (begun.0, ap (λ (s : MapState). s.lost) is, rose refl) later tt
      (ap (λ (s : MapState). s.change_attempts) is))
  change_kept_back Lost begun later rose =
      let is = begun.1 in
      let store : new.store ≡ old.store = ap (λ (s : MapState). s.store) is in
      let past : new.past ≡ old.past = ap (λ (s : MapState). s.past) is in
      refused_by Lost store past tt (unchanged_call (Err Lost) 1 old new limits store past tt (begun.0, ap (λ (s : MapState). s.lost) is ∙ begun.0) later
      (ap (λ (s : MapState). s.plan.faults) is) (ap (λ (s : MapState). s.change_attempts) is))
  change_kept_back NotFound begun later rose = absurd begun
  change_kept_back Exists begun later rose = absurd begun
  change_kept_back NoSpace begun later rose = absurd begun
  change_kept_back (Corrupt tags) begun later rose = absurd begun
  change_kept_back (Garbled leaf) begun later rose = absurd begun
  change_kept_back NoMemory begun later rose = absurd begun

  -- one that is refused
  pub change_refused : (e : StoreAnswer) → Changes {A = Unit {0}} (Err e) (change old.store c) old.store new.store → new.past ≡ old.past → old.lost ≡ false → new.lost ≡ false →
      old.plan.faults ≤ new.plan.faults → new.plan.faults ≡ old.plan.faults → new.change_attempts ≡ old.change_attempts + 1 → Applies map_keeper {A = Unit {0}} c (Err e) old new
  change_refused NotFound made past works still later same attempts =
      refused_by NotFound made.1 past made.0 (unchanged_call (Err NotFound) 1 old new limits made.1 past tt (works, still) later same attempts)
  change_refused Exists made past works still later same attempts =
      refused_by Exists made.1 past made.0 (unchanged_call (Err Exists) 1 old new limits made.1 past tt (works, still) later same attempts)
  change_refused NoSpace made past works still later same attempts =
      refused_by NoSpace made.1 past made.0 (unchanged_call (Err NoSpace) 1 old new limits made.1 past tt (works, still) later same attempts)
  change_refused NoMemory made past works still later same attempts = refused_by NoMemory made past tt (unchanged_call (Err NoMemory) 1 old new limits made past tt (works, still) later same attempts)
  change_refused Lost made past works still later same attempts = absurd made
  change_refused Failed made past works still later same attempts = absurd made
  change_refused (Corrupt tags) made past works still later same attempts = absurd made
  change_refused (Garbled leaf) made past works still later same attempts = absurd made

  -- one that is made
  pub change_made : IsChange c → change old.store c ≡ Ok new.store → new.past ≡ old.store ∷ old.past → old.lost ≡ false → new.lost ≡ false → old.plan.faults ≤ new.plan.faults →
      new.plan.faults ≡ old.plan.faults → new.change_attempts ≡ old.change_attempts + 1 → Applies map_keeper {A = Unit {0}} c (Ok tt) old new
  change_made is made past works still later same attempts =
      let longer = ap length past in
      record {
        applied = λ _. (made, refl, omega (arith, longer));
        call = record {
          model = λ _. tt;
          still = λ _ lost. absurd (let yes_lost : true ≡ false = sym lost ∙ still in cc);
          limits = λ _. (limits, subst (λ (r : Result Store StoreAnswer). IfOk r (λ after. IsWithinLimits after)) made (keeps_limits old.store c limits is));
          cause = record { cause = (works, still); later = later; unfailed = same; foundation = refl; reports = omega arith };
          attempts = attempts;
          damage = tt;
          below = λ _. tt;
          honest = λ _. (tt, tt);
          quiet = λ lost. absurd (let yes_lost : true ≡ false = sym lost ∙ works in cc);
          past = λ _. made_past old new (change old.store c) made past;
        };
        crash = λ _ just. made_crash old new (change old.store c) made past just;
      }

-- the same for a result that is known to be so
module _ {A : Type 0} (stated : Store → Result A StoreAnswer) (Bounds : A → Type 0) (old new : MapState) (limits : IsWithinLimits old.store) where
  pub kept_back_as : (result : Result A StoreAnswer) (e : StoreAnswer) → result ≡ Err e → Begins {A = Unit {0}} (Err e) old new → old.plan.faults ≤ new.plan.faults →
      (e ≡ Failed → Rose old.plan.faults new.plan.faults) → Reads map_keeper stated Bounds result old new
  kept_back_as result e is begun later rose = rw is (kept_back stated Bounds old new limits e begun later rose)

module _ (c : Change) (old new : MapState) (limits : IsWithinLimits old.store) where
  pub change_kept_back_as : (result : Result (Unit {0}) StoreAnswer) (e : StoreAnswer) → result ≡ Err e →
      Begins {A = Unit {0}} (Err e) (record old { change_attempts = old.change_attempts + 1 }) new → old.plan.faults ≤ new.plan.faults →
      (e ≡ Failed → Rose old.plan.faults new.plan.faults) → Applies map_keeper c result old new
  change_kept_back_as result e is begun later rose = rw is (change_kept_back c old new limits e begun later rose)

  pub change_refused_as : (result : Result (Unit {0}) StoreAnswer) (e : StoreAnswer) → result ≡ Err e → Changes {A = Unit {0}} (Err e) (change old.store c) old.store new.store →
      new.past ≡ old.past → old.lost ≡ false → new.lost ≡ false → old.plan.faults ≤ new.plan.faults → new.plan.faults ≡ old.plan.faults
      → new.change_attempts ≡ old.change_attempts + 1 → Applies map_keeper c result old new
  change_refused_as result e is made past works still later same attempts = rw is (change_refused c old new limits e made past works still later same attempts)
