-- A turn that needs no store, over one that serves nothing, is that turn over any.
use Rattle.app_api.specs.Behaviours.{Behaviour}
use Rattle.std.proofs.Common.{ℕ, ◌≡◌, ◌+◌, ◌-◌, ◌^◌, ◌<◌, ◌∙◌, Bool, true, false, List, [], Result, IfOk, ⊎_elim, ap, subst, refl, sym, arith}
use Rattle.tee_base.specs.Faults.{Rose}
use Rattle.store_api.specs.declared.answer.StoreAnswer.{StoreAnswer}
use Rattle.store_api.specs.declared.change.Change.{Change}
use Rattle.store_api.specs.Keeping.{Answers, Applied, Applies, Contents, IsCall, Keeper, Reads}
use Rattle.store_api.specs.Limits.{IsWithinLimits}
use Rattle.store_api.specs.MapStores.{contents_after}
use Rattle.store_api.specs.Stores.{Store, empty_store}
use Rattle.store_api.proofs.Named.{are_none}
use Rattle.alone.specs.declared.reply.Reply.{Reply}
use Rattle.alone.specs.declared.turn.TurnKind.{TurnKind}
use Rattle.alone.specs.declared.turn.TurnKind.TheVariants.{Plain, Lost, Starved, Corrupted}
use Rattle.alone.specs.Laws.{StorageStays, step_with_store, with_store}
use Rattle.alone.specs.Machine.{Machine}
use Rattle.alone.specs.Step.{Stepped, is_enabled, needs_store, step}
use Rattle.alone.proofs.Storage.{turn_leaves_doubt}
use Rattle.alone.proofs.WithoutStore.{turned_over}
use Rattle.app_side.specs.declared.side.AppSide.{AppSide}
use Rattle.app_side.specs.Represents.{Represents, event_of, is_lost}
use Rattle.app_side.specs.Serving.{IsTurn}
use Rattle.app_side.specs.Storeless.{IsRefusalOf, IsStoreless, status_of, wants_store}
use Rattle.app_side.specs.declared.no_store.NoStore.{NoStore}

-- what contracts see of a store that serves nothing
abbrev pub no_keeper : Keeper NoStore
no_keeper = record {
  has_model = λ _. Unit {0};
  contents = λ _. contents_after [] empty_store;
  status = λ s. status_of s;
  honest_below = λ _. ⊥;
  honest = λ _. ⊥;
  damage = λ _ _. ⊥;
  moment = λ _. 0;
  left_since = λ _ _ _. ⊥;
}

-- ---- its calls

empty_within : IsWithinLimits empty_store
empty_within = let none = are_none [] refl in subst IsWithinLimits none.store none.kept.limits

refused_call : {X : Type 0} (b : Bool) (r : Result X StoreAnswer) (n : ℕ) (old new : NoStore) → old.lost ≡ b → IsRefusalOf b r →
    new ≡ record old { change_attempts = old.change_attempts + n } → IsCall no_keeper n r old new
refused_call {X} true r n old new lost is same = rw (is, same) (record {
  model = λ h. h;
  still = λ _ _. refl;
  limits = λ _. (empty_within, empty_within);
  cause = record { cause = (lost, lost); later = omega arith; unfailed = refl; foundation = refl; reports = omega arith };
  attempts = refl;
  damage = tt;
  below = λ b. b;
  honest = λ h. absurd h;
  quiet = λ _. record { same = refl; none = λ t o left. left };
  past = λ h. absurd h;
})
refused_call {X} false r n old new lost is same = rw (is, same) (record {
  model = λ h. h;
  still = λ _ _. refl;
  limits = λ _. (empty_within, empty_within);
  cause = record { cause = (lost, lost); later = omega arith; unfailed = refl; foundation = refl; reports = omega arith };
  attempts = refl;
  damage = tt;
  below = λ b. b;
  honest = λ h. absurd h;
  quiet = λ _. record { same = refl; none = λ t o left. left };
  past = λ h. absurd h;
})

refused_answers : {X : Type 0} (b : Bool) (r stated : Result X StoreAnswer) → IsRefusalOf b r → Answers r stated
refused_answers true r stated is = rw is tt
refused_answers false r stated is = rw is tt

refused_bounds : {X : Type 0} (b : Bool) (r : Result X StoreAnswer) (P : X → Type 0) → IsRefusalOf b r → IfOk r P
refused_bounds true r P is = rw is tt
refused_bounds false r P is = rw is tt

refused_applied : {X : Type 0} (b : Bool) (r : Result X StoreAnswer) (stated : Result Store StoreAnswer) (kept : Contents) → IsRefusalOf b r → Applied r stated kept kept
refused_applied true r stated kept is = rw is (tt, refl)
refused_applied false r stated kept is = rw is (tt, refl)

pub refused_reads : {X : Type 0} (stated : Store → Result X StoreAnswer) (Bounds : X → Type 0) (r : Result X StoreAnswer) (s : NoStore) → IsRefusalOf s.lost r → Reads no_keeper stated Bounds r s s
refused_reads {X} stated Bounds r s is = record {
  answer = λ _. refused_answers s.lost r _ is;
  same = λ _. refl;
  bounds = refused_bounds s.lost r Bounds is;
  call = refused_call s.lost r 0 s s refl is (ap (λ (n : ℕ). record s { change_attempts = n }) (omega arith));
  crash = λ h. absurd h;
}

pub refused_applies : {X : Type 0} (c : Change) (r : Result X StoreAnswer) (old new : NoStore) → IsRefusalOf old.lost r →
    new ≡ record old { change_attempts = old.change_attempts + 1 } → Applies no_keeper c r old new
refused_applies {X} c r old new is same = record {
  applied = λ _. refused_applied old.lost r _ _ is;
  call = refused_call old.lost r 1 old new refl is same;
  crash = λ h. absurd h;
}

-- ---- a turn over it

module _ {A : Type 0} (behaviour : Behaviour A) (i : ℕ) (replies : List Reply) (before after : AppSide A) (old new : NoStore) where
  abbrev Turn : TurnKind → Type 0
  Turn kind = IsTurn no_keeper behaviour i kind replies before after old new

  -- no call failed, and none told of damage
  pub kind_is : (kind : TurnKind) → Turn kind → (status_of new).faults ≡ 0 → (status_of new).damage_reports ≡ 0 → IsStoreless kind
  kind_is Plain turn faults reports = tt
  kind_is Starved turn faults reports = tt
  kind_is (Lost changes) turn faults reports = never turn.status.cause.2
    where
      never : Rose (status_of old).faults (status_of new).faults → ⊥
      never rose =
          ⊎_elim (λ (more : (status_of old).faults < (status_of new).faults). absurd (omega (arith, more, faults)))
          (λ (most : (status_of new).faults ≡ 2 ^ 64 - 1). absurd (omega (arith, most, faults))) rose
  kind_is Corrupted turn faults reports = let told = turn.status.reports in absurd (omega (arith, told, reports))

  -- the objects that a value stands for may be others
  with_objects : (side : AppSide A) (s : Store) (m : Machine A) → Represents side (with_store s m) → Represents side m
  with_objects side s m stands = record { doubt = stands.doubt; parts = ap (with_store m.store) stands.parts }

  other_objects : (side : AppSide A) (s : Store) (m : Machine A) → Represents side m → Represents side (with_store s m)
  other_objects side s m stands = record { doubt = stands.doubt; parts = ap (with_store s) stands.parts }

  needs : (m : Machine A) → Represents before m → wants_store before i ≡ false → needs_store m i ≡ false
  needs m stands storeless = ap (λ (x : Machine A). needs_store x i) stands.parts ∙ storeless

  -- the step over no objects, and over those of the machine
  same : (kind : TurnKind) → IsStoreless kind → (m : Machine A) → needs_store m i ≡ false → step behaviour (with_store empty_store m)
      (event_of kind i) ≡ step_with_store empty_store (step behaviour m (event_of kind i))
  same Plain is m e = turned_over empty_store behaviour m i e
  same Starved is m e = refl
  same (Lost changes) is m e = absurd is
  same Corrupted is m e = absurd is

  pub step_is : (kind : TurnKind) → Turn kind → IsStoreless kind → wants_store before i ≡ false → (m : Machine A) → Represents before m → Represents after (step behaviour m (event_of kind i)).machine
  step_is kind turn is storeless m stands =
      with_objects after empty_store (step behaviour m (event_of kind i)).machine
      (subst (λ (s : Stepped A). Represents after s.machine) (same kind is m (needs m stands storeless))
      (turn.step tt (with_store empty_store m) (other_objects before empty_store m stands) refl))

  -- the event may stand there
  pub stands_is : (kind : TurnKind) → Turn kind → IsStoreless kind → (m : Machine A) → Represents before m → is_enabled m (event_of kind i) ≡ true
  stands_is Plain turn is m stands = refl
  stands_is Starved turn is m stands = turn.stands tt (with_store empty_store m) (other_objects before empty_store m stands) refl
  stands_is (Lost changes) turn is m stands = absurd is
  stands_is Corrupted turn is m stands = absurd is

  pub told_is : (kind : TurnKind) → Turn kind → IsStoreless kind → wants_store before i ≡ false → (m : Machine A) → Represents before m → replies ≡ (step behaviour m (event_of kind i)).replies
  told_is kind turn is storeless m stands =
      turn.told tt (with_store empty_store m) (other_objects before empty_store m stands) refl
      ∙ ap (λ (s : Stepped A). s.replies) (same kind is m (needs m stands storeless))

  pub stays_lost : (kind : TurnKind) → Turn kind → IsStoreless kind → old.lost ≡ is_lost before → is_lost after ≡ is_lost before
  stays_lost Plain turn is same = turn.lost ∙ turn.status.cause ∙ same
  stays_lost Starved turn is same = turn.lost ∙ turn.status.cause ∙ same
  stays_lost (Lost changes) turn is same = absurd is
  stays_lost Corrupted turn is same = absurd is

  -- the storage is as it was
  store_stays : (kind : TurnKind) → IsStoreless kind → (m : Machine A) → needs_store m i ≡ false → (step behaviour m (event_of kind i)).machine.store ≡ m.store
  store_stays Plain is m none = ap (λ (s : Stepped A). s.machine.store) (turned_over m.store behaviour m i none)
  store_stays Starved is m none = refl
  store_stays (Lost changes) is m none = absurd is
  store_stays Corrupted is m none = absurd is

  doubt_stays : (kind : TurnKind) → IsStoreless kind → (m : Machine A) → (step behaviour m (event_of kind i)).machine.in_doubt ≡ m.in_doubt
  doubt_stays Plain is m = turn_leaves_doubt behaviour m i
  doubt_stays Starved is m = refl
  doubt_stays (Lost changes) is m = absurd is
  doubt_stays Corrupted is m = absurd is

  pub storage_is : (kind : TurnKind) → Turn kind → IsStoreless kind → wants_store before i ≡ false → old.lost ≡ is_lost before → (m : Machine A) → Represents before m
      → StorageStays m (step behaviour m (event_of kind i)).machine
  storage_is kind turn is storeless same_loss m stands = record {
    store = store_stays kind is m (needs m stands storeless);
    in_doubt = doubt_stays kind is m;
    lost =
        ap (λ (x : Machine A). x.lost) (step_is kind turn is storeless m stands).parts ∙ stays_lost kind turn is same_loss
        ∙ sym (ap (λ (x : Machine A). x.lost) stands.parts);
  }
