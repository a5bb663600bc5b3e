-- A turn over a region of a volume, for the world that stands over its regions.
use Rattle.app_api.specs.Behaviours.{Behaviour}
use Rattle.std.proofs.Common.{◌≡◌, ◌≢◌, ◌<◌, ◌≤◌, ◌+◌, ◌==◌, ℕ, Bool, true, false, List, [], ◌∷◌, Option, None, Some, Result, Ok}
use Rattle.std.proofs.Common.{is_some, set, zero, suc, refl, sym, subst, ◌∙◌, ap, inl, inr, ⊎_elim, arith}
use Rattle.std.specs.Prelude.{◌⊎◌, IsTrue, slice_get}
use Rattle.std.proofs.lemmas.Bool.{eqb-true, eqb-false}
use Rattle.alone.proofs.Storage.{damage_leaves_doubt, turn_leaves_doubt}
use Rattle.alone.specs.declared.reply.Reply.{Reply}
use Rattle.alone.specs.declared.turn.TurnKind.{TurnKind}
use Rattle.alone.specs.declared.turn.TurnKind.TheVariants as kinds
use Rattle.alone.specs.Machine.{Machine}
use Rattle.alone.specs.Step.{is_enabled, step, store_found}
use Rattle.app_side.specs.Represents.{Represents as Runs_as, event_of as turn_of, store_kind}
use Rattle.app_side.specs.declared.side.AppSide.{AppSide}
use Rattle.object_asks.specs.declared.turn.TurnKind.{TurnKind as StoreKind}
use Rattle.object_asks.specs.declared.turn.TurnKind.TheVariants as store_kinds
use Rattle.object_asks.specs.Serving.{CrashTurns, IsKind, IsUndamaged, LeftByTurn, ShowsDamage, UnlessInDoubt}
use Rattle.object_dir.specs.Laws.{reads_back}
use Rattle.object_dir.proofs.HeldLemmas.{own_store as region_store, same_contents, stands_by, still_stands}
use Rattle.object_dir.proofs.PlaceLemmas.{volume_stays}
use Rattle.object_dir.specs.Directories.{damage_of}
use Rattle.object_dir.specs.Kept.{IsHeld}
use Rattle.object_dir.specs.KeptDirs.{HasObjects, kept_keeper}
use Rattle.object_dir.specs.Regions.{in_use, contents_in, remains_of, region_in, remains_in, rest_of, store_in}
use Rattle.object_dir.specs.declared.kept_dir.KeptDir.{KeptDir}
use Rattle.region_plan.specs.declared.directory.Directory.{Directory}
use Rattle.store_api.specs.Keeping.{Contents, Keeper, LeavesJust, Remains, Rest, Status}
use Rattle.region_plan.specs.Regions.{breaks}
use Rattle.store_api.specs.declared.answer.StoreAnswer.{StoreAnswer}
use Rattle.store_api.specs.declared.answer.StoreAnswer.TheVariants as stores
use Rattle.store_api.specs.Stores.{Store}
use Rattle.store_api.specs.Volumes.{Held, RestsAt, VolumeKeeper}
use Rattle.tee_core.specs.Directories.{AreHeld, kept_at}
use Rattle.tee_core.specs.Represents.{HasDoubt, HasStoresOf, HoldsStores, IsLeftOf, StandFor, StoresFrom, kept_of, none_kept}
use Rattle.tee_core.specs.Turning.{HasDamage, IsOver, MeetsDamage, TurnsOver}
use Rattle.tee_core.specs.World.{AppEvent, World, met_by_others, moved_at, world_step}
use Rattle.tee_core.specs.Moments.{IsSound, IsWithin, KeepsCounts, RoseIfLost}
use Rattle.tee_core.specs.Powers.{all_lost}
use Rattle.tee_core.specs.Sides.{AreSides}
use Rattle.tee_core.proofs.DirectoryLemmas.{held_put}
use Rattle.tee_core.proofs.SideLemmas.{get_other, get_set, map_set, sides_set}
use Rattle.tee_core.proofs.Stores.{doubt_unlost, has_lost, left_has, left_lost as left_lost_world, others_at, own_at, remains_is, same_region}
use Rattle.tee_core.proofs.Stores.{stores_lost, stores_same, whole_at, whole_kept, whole_set}

-- a turn that didn't lose the storage leaves the change in doubt
doubt_stays : {A : Type 0} (behaviour : Behaviour A) (kind : TurnKind) (m : Machine A) (i : ℕ) → ((changes : Bool) → store_kind kind ≢ store_kinds.Lost changes) →
    (step behaviour m (turn_of kind i)).machine.in_doubt ≡ m.in_doubt
doubt_stays behaviour kinds.Plain m i served = turn_leaves_doubt behaviour m i
doubt_stays behaviour (kinds.Lost changes) m i served = absurd (served changes refl)
doubt_stays behaviour kinds.Starved m i served = refl
doubt_stays behaviour kinds.Corrupted m i served = damage_leaves_doubt behaviour m i

-- two regions of one number stand for the same store, and all others too
same_regions : (app : ℕ) (held then : Held) → region_in app then ≡ region_in app held → rest_of app then ≡ rest_of app held → (b : ℕ) → region_in b then ≡ region_in b held
same_regions app held then own rest b =
    elim (b == app) as (λ c. (b == app) ≡ c → region_in b then ≡ region_in b held) [
      | true ↦ λ e. subst (λ k. region_in k then ≡ region_in k held) (sym (eqb-true b app e)) own
      | false ↦ λ e. same_region app b held then rest (eqb-false b app e)
    ] refl

-- a change in doubt of another machine, and of this one
pub doubt_apart : {A : Type 0} (world : World A) (app owner : ℕ) (m : Machine A) → owner ≢ app → HasDoubt owner (set world app m) → HasDoubt owner world
doubt_apart world app owner m other has = record { machine = has.machine; there = sym (get_other world app owner m other) ∙ has.there; doubt = has.doubt }

pub doubt_own : {A : Type 0} (world : World A) (app : ℕ) (m then : Machine A) → slice_get world app ≡ Some m → then.in_doubt ≡ m.in_doubt → HasDoubt app (set world app then) → HasDoubt app world
doubt_own {A} world app m then here same has =
    let is : has.machine ≡ then = let e : Some has.machine ≡ Some then = sym has.there ∙ get_set world app m then here in cc in
    record { machine = m; there = here; doubt = ap (λ (d : Option Store). is_some d) (sym same) ∙ ap (λ (x : Machine A). is_some x.in_doubt) (sym is) ∙ has.doubt }

pub doubt_kept : {A : Type 0} (world : World A) (app owner : ℕ) (m then : Machine A) → slice_get world app ≡ Some m → then.in_doubt ≡ m.in_doubt → HasDoubt owner world →
    HasDoubt owner (set world app then)
doubt_kept {A} world app owner m then here same has =
    elim (owner == app) as (λ c. (owner == app) ≡ c → HasDoubt owner (set world app then)) [
      | true ↦ λ e.
          let own : slice_get world app ≡ Some has.machine = subst (λ k. slice_get world k ≡ Some has.machine) (eqb-true owner app e) has.there in
          let is : m ≡ has.machine = let f : Some m ≡ Some has.machine = sym here ∙ own in cc in
          record {
            machine = then;
            there = subst (λ k. slice_get (set world app then) k ≡ Some then) (sym (eqb-true owner app e)) (get_set world app m then here);
            doubt = ap (λ (d : Option Store). is_some d) same ∙ ap (λ (x : Machine A). is_some x.in_doubt) is ∙ has.doubt;
          }
      | false ↦ λ e. record { machine = has.machine; there = get_other world app owner then (eqb-false owner app e) ∙ has.there; doubt = has.doubt }
    ] refl

pub doubt_back : {A : Type 0} (world : World A) (app owner : ℕ) (m then : Machine A) → slice_get world app ≡ Some m → then.in_doubt ≡ m.in_doubt →
    HasDoubt owner (set world app then) → HasDoubt owner world
doubt_back world app owner m then here same has =
    elim (owner == app) as (λ c. (owner == app) ≡ c → HasDoubt owner world) [
      | true ↦ λ e. subst (λ k. HasDoubt k world) (sym (eqb-true owner app e)) (doubt_own world app m then here same (subst (λ k. HasDoubt k (set world app then)) (eqb-true owner app e) has))
      | false ↦ λ e. doubt_apart world app owner then (eqb-false owner app e) has
    ] refl

-- a machine with the same objects in place of another changes no store
pub stores_stay : {A : Type 0} (kept : ℕ → Bool) (r i : ℕ) (world : World A) (held : Held) (m then : Machine A) → slice_get world i ≡ Some m → then.store ≡ m.store → then.in_doubt ≡ m.in_doubt
    → StoresFrom kept r world held → StoresFrom kept r (set world i then) held
stores_stay {A} kept r i [] held m then here store doubt are = absurd (let e : None ≡ Some m = here in cc)
stores_stay {A} kept r zero (n ∷ world) held m then here store doubt are =
    let is : n ≡ m = let e : Some n ≡ Some m = here in cc in (
      are.0 ∙ ap (λ (x : Machine A). Ok (store_found (kept r) x.store x.in_doubt)) is
          ∙ ap (λ (s : Store). Ok (store_found (kept r) s m.in_doubt)) (sym store)
          ∙ ap (λ (d : Option Store). Ok (store_found (kept r) then.store d)) (sym doubt),
      are.1,
    )
stores_stay kept r (suc i) (n ∷ world) held m then here store doubt are = (are.0, stores_stay kept (r + 1) i world held m then here store doubt are.1)

-- what a crash left has the same stores as this
pub left_alike : {A : Type 0} (world : World A) (sequence : ℕ) (held then : Held) → ((b : ℕ) → region_in b then ≡ region_in b held) → then.sequence ≡ held.sequence
    → IsLeftOf world sequence (Some held) → IsLeftOf world sequence (Some then)
left_alike world sequence held then same number left = ⊎_elim
    (λ (now : (held.sequence ≡ sequence) × HoldsStores none_kept world held). inl (number ∙ now.0, stores_same none_kept 0 world held then (λ b le. same b) now.1))
    (λ (doubt : (owner : ℕ) × HasDoubt owner world × (sequence < held.sequence) × HoldsStores (kept_of owner) world held).
    inr (doubt.0, doubt.1, subst (λ n. sequence < n) (sym number) doubt.2, stores_same (kept_of doubt.0) 0 world held then (λ b le. same b) doubt.3)) left

pub left_stays : {A : Type 0} (world : World A) (sequence app : ℕ) (m then : Machine A) (o : Option Held) → slice_get world app ≡ Some m → then.store ≡ m.store → then.in_doubt ≡ m.in_doubt
    → IsLeftOf world sequence o → IsLeftOf (set world app then) sequence o
left_stays world sequence app m then None here store doubt left = absurd left
left_stays world sequence app m then (Some held) here store doubt left = ⊎_elim
    (λ (now : (held.sequence ≡ sequence) × HoldsStores none_kept world held). inl (now.0, stores_stay none_kept 0 app world held m then here store doubt now.1))
    (λ (has : (owner : ℕ) × HasDoubt owner world × (sequence < held.sequence) × HoldsStores (kept_of owner) world held).
    inr (has.0, doubt_kept world app has.0 m then here doubt has.1, has.2, stores_stay (kept_of has.0) 0 app world held m then here store doubt has.3)) left

-- each region of what a crash left stands for a store
region_left : {A : Type 0} (world : World A) (sequence app : ℕ) (m : Machine A) (held : Held) → slice_get world app ≡ Some m → IsLeftOf world sequence (Some held) →
    (store : Store) × (region_in app held ≡ Ok store)
region_left world sequence app m held here left = ⊎_elim
    (λ (now : (held.sequence ≡ sequence) × HoldsStores none_kept world held). (store_found (none_kept app) m.store m.in_doubt, whole_at none_kept world app held m here now.1))
    (λ (has : (owner : ℕ) × HasDoubt owner world × (sequence < held.sequence) × HoldsStores (kept_of owner) world held).
    (store_found (kept_of has.0 app) m.store m.in_doubt, whole_at (kept_of has.0) world app held m here has.3)) left

-- a turn is one that lost the storage, or isn't
elim_kind : {P : Type 0} (kind : TurnKind) → (((changes : Bool) → kind ≢ kinds.Lost changes) → P) → ((changes : Bool) → kind ≡ kinds.Lost changes → P) → P
elim_kind kinds.Plain served lost = served (λ changes is. absurd (let f : kinds.Plain ≡ kinds.Lost changes = is in cc))
elim_kind (kinds.Lost changes) served lost = lost changes refl
elim_kind kinds.Starved served lost = served (λ changes is. absurd (let f : kinds.Starved ≡ kinds.Lost changes = is in cc))
elim_kind kinds.Corrupted served lost = served (λ changes is. absurd (let f : kinds.Corrupted ≡ kinds.Lost changes = is in cc))

-- a turn that met no damage of its store is sound
sound_by : (kind : TurnKind) → IsUndamaged (store_kind kind) → IsSound kind
sound_by kinds.Plain none = tt
sound_by (kinds.Lost changes) none = tt
sound_by kinds.Starved none = tt
sound_by kinds.Corrupted none = absurd none.1

module _ {V A : Type 0} (K : VolumeKeeper V)
    (rests : (v : V) → K.honest v → (K.condition v).lost ≡ false → RestsAt K v (K.held v))
    (since : (v : V) (t u : ℕ) (o : Option Held) → t ≤ u → K.left_since v u o → K.left_since v t o)
    (behaviour : Behaviour A) (sides : List (AppSide A)) (world : World A) (app i : ℕ) (kind : TurnKind) (replies : List Reply)
    (before after : AppSide A) (taken kept : Option Directory) (old new : V) (m : Machine A) (here : slice_get world app ≡ Some m) (stands : Runs_as before m)
    (whole : StandFor K sides old world) (right : IsHeld ((K.held old).leaves app) taken) (t : TurnsOver K behaviour app i kind replies before after taken kept old new) where
  abbrev D : Keeper (KeptDir V)
  D = kept_keeper K

  abbrev d : KeptDir V
  d = t.dir_before

  abbrev e : KeptDir V
  e = t.dir_after

  abbrev then : Machine A
  then = (step behaviour m (turn_of kind i)).machine

  -- ---- the store before the turn and after it

  own : region_in app (K.held old) ≡ Ok m.store
  own = own_at world app (K.held old) m here whole.stores

  stands_before : region_in app (K.held old) ≡ Ok (store_in app (K.held old))
  stands_before = stands_by app (K.held old) m.store own

  right_before : IsHeld ((K.held d.region.volume.now).leaves d.region.number) d.kept
  right_before =
      subst (λ (v : V). IsHeld ((K.held v).leaves d.region.number) d.kept) (sym t.over_old.same_volume)
      (subst (λ n. IsHeld ((K.held old).leaves n) d.kept) (sym t.over_old.same_region)
      (subst (λ (o : Option Directory). IsHeld ((K.held old).leaves app) o) (sym t.over_old.same_kept) right))

  has_before : HasObjects K d
  has_before = record {
    store = record {
      honest = subst K.honest (sym t.over_old.same_volume) whole.honest;
      stands = still_stands d.region.number app (K.held d.region.volume.now) (K.held old) t.over_old.same_region (ap K.held t.over_old.same_volume) stands_before;
    };
    right = right_before;
  }

  contents_before : D.contents d ≡ contents_in app (K.held old)
  contents_before = same_contents d.region.number app (K.held d.region.volume.now) (K.held old) t.over_old.same_region (ap K.held t.over_old.same_volume)

  contents_after : D.contents e ≡ contents_in app (K.held new)
  contents_after = same_contents e.region.number app (K.held e.region.volume.now) (K.held new) t.over_new.same_region (ap K.held t.over_new.same_volume)

  store_before : m.store ≡ (D.contents d).store
  store_before = sym (region_store app (K.held old) m.store own) ∙ sym (ap (λ (c : Contents). c.store) contents_before)

  pub after_is : Runs_as after then
  after_is = t.turn.step has_before m stands store_before

  pub replies_are : replies ≡ (step behaviour m (turn_of kind i)).replies
  replies_are = t.turn.told has_before m stands store_before

  pub may : is_enabled m (turn_of kind i) ≡ true
  may = t.turn.stands has_before m stands store_before

  has_after : HasObjects K e
  has_after = t.turn.keeps.model has_before

  pub honest_after : K.honest new
  honest_after = subst K.honest t.over_new.same_volume has_after.store.honest

  pub met_no_damage : IsSound kind
  met_no_damage = sound_by kind (t.turn.honest has_before).1

  stands_after : region_in app (K.held new) ≡ Ok (store_in app (K.held new))
  stands_after = still_stands app e.region.number (K.held new) (K.held e.region.volume.now) (sym t.over_new.same_region) (ap K.held (sym t.over_new.same_volume)) has_after.store.stands

  store_then : then.store ≡ (D.contents e).store
  store_then = t.turn.store has_before m stands store_before

  store_after : then.store ≡ store_in app (K.held new)
  store_after = store_then ∙ ap (λ (c : Contents). c.store) contents_after

  rest_after : rest_of app (K.held new) ≡ rest_of app (K.held old)
  rest_after = sym (ap (λ (c : Contents). c.rest) contents_after) ∙ (t.turn.keeps.beside has_before).rest ∙ ap (λ (c : Contents). c.rest) contents_before

  -- the directory that is kept afterwards is right, and so are those of the other regions
  right_after : IsHeld ((K.held new).leaves app) kept
  right_after =
      subst (λ (o : Option Directory). IsHeld ((K.held new).leaves app) o) t.over_new.same_kept
      (subst (λ n. IsHeld ((K.held new).leaves n) e.kept) t.over_new.same_region
      (subst (λ (v : V). IsHeld ((K.held v).leaves e.region.number) e.kept) t.over_new.same_volume has_after.right))

  leaves_stay : (other : ℕ) → other ≢ app → (K.held new).leaves other ≡ (K.held old).leaves other
  leaves_stay other apart =
      sym (others_at app other (K.held new).leaves apart) ∙ ap (λ (r : Rest). r.leaves other) rest_after ∙ others_at app other (K.held old).leaves apart

  pub held_after : (dirs then_dirs : List (Option Directory)) → kept_at then_dirs app ≡ kept → ((other : ℕ) → other ≢ app → kept_at then_dirs other ≡ kept_at dirs other)
      → AreHeld (K.held old).leaves dirs → AreHeld (K.held new).leaves then_dirs
  held_after dirs then_dirs own others are = held_put (K.held old).leaves (K.held new).leaves dirs then_dirs app kept leaves_stay right_after own others are

  number_before : (D.contents d).number ≡ (K.held old).sequence
  number_before = ap (λ (c : Contents). c.number) contents_before

  number_then : (D.contents e).number ≡ (K.held new).sequence
  number_then = ap (λ (c : Contents). c.number) contents_after

  pub stores_after : HoldsStores none_kept (set world app then) (K.held new)
  stores_after =
      whole_set world app (K.held old) (K.held new) then (λ b other. same_region app b (K.held old) (K.held new) rest_after other)
      (stands_after ∙ ap (λ (s : Store). Ok s) (sym store_after)) whole.stores

  lost_before : (D.status d).lost ≡ (K.condition old).lost
  lost_before = ap (λ (v : V). (K.condition v).lost) t.over_old.same_volume

  lost_after : (D.status e).lost ≡ (K.condition new).lost
  lost_after = ap (λ (v : V). (K.condition v).lost) t.over_new.same_volume

  -- ---- what a crash leaves

  from_new : (u : ℕ) (o : Option Held) → K.left_since new u o → D.left_since e u (remains_in app o)
  from_new u o left = (o, subst (λ (v : V). K.left_since v u o) (sym t.over_new.same_volume) left, ap (λ n. remains_in n o) (sym t.over_new.same_region))

  to_old : (u : ℕ) (r : Remains) → D.left_since d u r → (c : Option Held) × K.left_since old u c × (r ≡ remains_in app c)
  to_old u r left = (left.0, subst (λ (v : V). K.left_since v u left.0) t.over_old.same_volume left.1, left.2 ∙ ap (λ n. remains_in n left.0) t.over_old.same_region)

  moment_before : D.moment d ≡ K.moment old
  moment_before = ap K.moment t.over_old.same_volume

  moment_after : D.moment e ≡ K.moment new
  moment_after = ap K.moment t.over_new.same_volume

  pub later : K.moment old ≤ K.moment new
  later = let past = (t.turn.keeps.past has_before).later in omega (arith, moment_before, moment_after, past)

  just : (K.condition old).lost ≡ false → LeavesJust D d (D.contents d)
  just works = record {
    only = λ r left.
        let from = to_old (K.moment old) r (subst (λ u. D.left_since d u r) moment_before left) in
        let is : from.0 ≡ Some (K.held old) = (rests old whole.honest works).only from.0 from.1 in
        from.2 ∙ ap (λ (o : Option Held). remains_in app o) is ∙ reads_back app (K.held old) stands_before ∙ ap (λ (c : Contents). Some c) (sym contents_before);
  }

  crash : (K.condition old).lost ≡ false → CrashTurns D (store_kind kind) then.in_doubt d e
  crash works = t.turn.crash has_before (just works) m stands store_before

  -- it leaves what is kept after the turn
  left_as_after : (o : Option Held) → remains_in app o ≡ Some (D.contents e) → IsLeftOf (set world app then) (K.held new).sequence o
  left_as_after o is =
      let r = remains_is app o (contents_in app (K.held new)) (is ∙ ap (λ (c : Contents). Some c) contents_after) in
      subst (λ (x : Option Held). IsLeftOf (set world app then) (K.held new).sequence x) (sym r.is)
      (inl (r.sequence, stores_same none_kept 0 (set world app then) (K.held new) r.held (λ b le. same_regions app (K.held new) r.held (r.store ∙ sym stands_after) r.rest b) stores_after))

  after_just : LeavesJust D e (D.contents e) → (o : Option Held) → K.left_since new (K.moment new) o → IsLeftOf (set world app then) (K.held new).sequence o
  after_just only o left = left_as_after o (only.only (remains_in app o) (subst (λ u. D.left_since e u (remains_in app o)) (sym moment_after) (from_new (K.moment new) o left)))

  -- it leaves the change in doubt besides
  doubtful : (o : Option Held) (doubt : Option Store) → then.in_doubt ≡ doubt → D.contents e ≡ D.contents d → LeftByTurn (store_kinds.Lost true) doubt (D.contents d) (D.contents e) (remains_in app o)
      → IsLeftOf (set world app then) (K.held new).sequence o
  doubtful o None is still left = left_as_after o (left ∙ ap (λ (c : Contents). Some c) (sym still))
  doubtful o (Some store) is still left = ⊎_elim
      (λ (same : remains_in app o ≡ Some (D.contents d)). left_as_after o (same ∙ ap (λ (c : Contents). Some c) (sym still)))
      (λ (further : (n : ℕ) × ((D.contents d).number < n) × (remains_in app o ≡ Some (record { store = store; rest = (D.contents d).rest; number = n }))).
      let r = remains_is app o (record { store = store; rest = rest_of app (K.held old); number = further.0 })
      (further.2 ∙ ap (λ (c : Contents). Some (record { store = store; rest = c.rest; number = further.0 })) contents_before) in
      let number : (D.contents e).number ≡ (D.contents d).number = ap (λ (c : Contents). c.number) still in
      let greater : (K.held new).sequence < r.held.sequence = let lt = further.1 in let same = r.sequence in omega (arith, lt, same, number, number_then) in
      subst (λ (x : Option Held). IsLeftOf (set world app then) (K.held new).sequence x) (sym r.is)
      (inr (
        app,
        record { machine = then; there = get_set world app m then here; doubt = ap (λ (x : Option Store). is_some x) is },
        greater,
        whole_kept world app (K.held old) r.held then (λ b other. same_region app b (K.held old) r.held r.rest other)
            (r.store ∙ ap (λ (x : Option Store). Ok (store_found true then.store x)) (sym is)) whole.stores,
      ))) left

  left_working : (k : StoreKind) → store_kind kind ≡ k → (K.condition old).lost ≡ false → (o : Option Held) → K.left_since new (K.moment new) o → IsLeftOf (set world app then) (K.held new).sequence o
  left_working store_kinds.Plain is works o left = after_just (subst (λ (k : StoreKind). UnlessInDoubt k (LeavesJust D e (D.contents e))) is (crash works).afterwards) o left
  left_working (store_kinds.Lost false) is works o left = after_just (subst (λ (k : StoreKind). UnlessInDoubt k (LeavesJust D e (D.contents e))) is (crash works).afterwards) o left
  left_working store_kinds.Corrupted is works o left = after_just (subst (λ (k : StoreKind). UnlessInDoubt k (LeavesJust D e (D.contents e))) is (crash works).afterwards) o left
  left_working (store_kinds.Lost true) is works o left =
      let cause : IsKind (store_kinds.Lost true) (D.status d) (D.status e) = subst (λ (k : StoreKind). IsKind k (D.status d) (D.status e)) is t.turn.status.cause in
      let still : D.contents e ≡ D.contents d = t.turn.keeps.still has_before cause.1 in
      let earlier : K.left_since new (K.moment old) o = since new (K.moment old) (K.moment new) o later left in
      let within = (crash works).any_moment.each (remains_in app o) (subst (λ u. D.left_since e u (remains_in app o)) (sym moment_before) (from_new (K.moment old) o earlier)) in
      doubtful o then.in_doubt refl still (subst (λ (k : StoreKind). LeftByTurn k then.in_doubt (D.contents d) (D.contents e) (remains_in app o)) is within)

  -- ---- over a volume that was lost

  not_lost : (k : StoreKind) → store_kind kind ≡ k → (K.condition old).lost ≡ true → ((changes : Bool) → k ≢ store_kinds.Lost changes) × ((D.status e).lost ≡ true)
  not_lost store_kinds.Plain is lost = (
    λ changes same. absurd (let f : store_kinds.Plain ≡ store_kinds.Lost changes = same in cc),
    (subst (λ (k : StoreKind). IsKind k (D.status d) (D.status e)) is t.turn.status.cause) ∙ lost_before ∙ lost,
  )
  not_lost (store_kinds.Lost changes) is lost =
      let cause : IsKind (store_kinds.Lost changes) (D.status d) (D.status e) = subst (λ (k : StoreKind). IsKind k (D.status d) (D.status e)) is t.turn.status.cause in
      absurd (let f : true ≡ false = sym lost ∙ sym lost_before ∙ cause.0 in cc)
  not_lost store_kinds.Corrupted is lost =
      let cause : IsKind store_kinds.Corrupted (D.status d) (D.status e) = subst (λ (k : StoreKind). IsKind k (D.status d) (D.status e)) is t.turn.status.cause in
      absurd (let f : true ≡ false = sym lost ∙ sym lost_before ∙ cause.0 in cc)

  still_lost : (K.condition old).lost ≡ true → D.contents e ≡ D.contents d
  still_lost lost = t.turn.keeps.still has_before (not_lost (store_kind kind) refl lost).1

  same_store : (K.condition old).lost ≡ true → then.store ≡ m.store
  same_store lost = store_then ∙ ap (λ (c : Contents). c.store) (still_lost lost) ∙ sym store_before

  same_doubt : (K.condition old).lost ≡ true → then.in_doubt ≡ m.in_doubt
  same_doubt lost = doubt_stays behaviour kind m i (not_lost (store_kind kind) refl lost).0

  same_sequence : (K.condition old).lost ≡ true → (K.held old).sequence ≡ (K.held new).sequence
  same_sequence lost = sym number_before ∙ ap (λ (c : Contents). c.number) (sym (still_lost lost)) ∙ number_then

  -- what was left before of the same objects
  found_before : (o c : Option Held) → remains_in app o ≡ remains_in app c → IsLeftOf world (K.held old).sequence c → IsLeftOf world (K.held old).sequence o
  found_before o None same left = absurd left
  found_before o (Some held) same left =
      let region = region_left world (K.held old).sequence app m held here left in
      let r = remains_is app o (record { store = region.0; rest = rest_of app held; number = held.sequence }) (same ∙ ap (λ (x : Result Store ℕ). remains_of app held x) region.1) in
      subst (λ (x : Option Held). IsLeftOf world (K.held old).sequence x) (sym r.is)
      (left_alike world (K.held old).sequence held r.held (λ b. same_regions app held r.held (r.store ∙ sym region.1) r.rest b) r.sequence left)

  found_lost : (K.condition old).lost ≡ true → (u : ℕ) (o : Option Held) → u ≡ K.moment old → K.left_since new u o → IsLeftOf world (K.held old).sequence o
  found_lost lost u o same left =
      let quiet = t.turn.keeps.quiet (lost_before ∙ lost) in
      let from = to_old u (remains_in app o) (quiet.none u (remains_in app o) (from_new u o left)) in
      found_before o from.0 from.2 (whole.left from.0 (subst (λ n. K.left_since old n from.0) same from.1))

  same_moment : (K.condition old).lost ≡ true → K.moment new ≡ K.moment old
  same_moment lost = sym moment_after ∙ (t.turn.keeps.quiet (lost_before ∙ lost)).same ∙ moment_before

  left_lost : (K.condition old).lost ≡ true → (o : Option Held) → K.left_since new (K.moment new) o → IsLeftOf (set world app then) (K.held new).sequence o
  left_lost lost o left =
      subst (λ n. IsLeftOf (set world app then) n o) (same_sequence lost)
      (left_stays world (K.held old).sequence app m then o here (same_store lost) (same_doubt lost) (found_lost lost (K.moment new) o (same_moment lost) left))

  pub left_after : (o : Option Held) → K.left_since new (K.moment new) o → IsLeftOf (set world app then) (K.held new).sequence o
  left_after o left =
      elim (K.condition old).lost as (λ b. (K.condition old).lost ≡ b → IsLeftOf (set world app then) (K.held new).sequence o) [
        | true ↦ λ lost. left_lost lost o left
        | false ↦ λ works. left_working (store_kind kind) refl works o left
      ] refl

  -- ---- changes in doubt

  calm_kind : (k : StoreKind) → store_kind kind ≡ k → (K.condition new).lost ≡ false → ((changes : Bool) → k ≢ store_kinds.Lost changes) × ((K.condition old).lost ≡ false)
  calm_kind store_kinds.Plain is works = (
    λ changes same. absurd (let f : store_kinds.Plain ≡ store_kinds.Lost changes = same in cc),
    sym lost_before ∙ sym (subst (λ (k : StoreKind). IsKind k (D.status d) (D.status e)) is t.turn.status.cause) ∙ lost_after ∙ works,
  )
  calm_kind (store_kinds.Lost changes) is works =
      let cause : IsKind (store_kinds.Lost changes) (D.status d) (D.status e) = subst (λ (k : StoreKind). IsKind k (D.status d) (D.status e)) is t.turn.status.cause in
      absurd (let f : true ≡ false = sym cause.1 ∙ lost_after ∙ works in cc)
  calm_kind store_kinds.Corrupted is works =
      let cause : IsKind store_kinds.Corrupted (D.status d) (D.status e) = subst (λ (k : StoreKind). IsKind k (D.status d) (D.status e)) is t.turn.status.cause in
      (λ changes same. absurd (let f : store_kinds.Corrupted ≡ store_kinds.Lost changes = same in cc), sym lost_before ∙ cause.0)

  pub calm_after : (K.condition new).lost ≡ false → (owner : ℕ) → HasDoubt owner (set world app then) → ⊥
  calm_after works owner has =
      let kind_is = calm_kind (store_kind kind) refl works in
      whole.calm kind_is.1 owner (doubt_back world app owner m then here (doubt_stays behaviour kind m i kind_is.0) has)

  only_own : (K.condition old).lost ≡ false → (owner : ℕ) → HasDoubt owner (set world app then) → owner ≡ app
  only_own works owner has =
      elim (owner == app) as (λ c. (owner == app) ≡ c → owner ≡ app) [
        | true ↦ λ is. eqb-true owner app is
        | false ↦ λ is. absurd (whole.calm works owner (doubt_apart world app owner then (eqb-false owner app is) has))
      ] refl

  pub single_after : (one other : ℕ) → HasDoubt one (set world app then) → HasDoubt other (set world app then) → one ≡ other
  single_after one other first second =
      elim (K.condition old).lost as (λ b. (K.condition old).lost ≡ b → one ≡ other) [
        | true ↦ λ lost. whole.single one other (doubt_back world app one m then here (same_doubt lost) first) (doubt_back world app other m then here (same_doubt lost) second)
        | false ↦ λ works. only_own works one first ∙ sym (only_own works other second)
      ] refl

  -- ---- within the turn

  old_has : (o : Option Held) → remains_in app o ≡ Some (D.contents d) → HasStoresOf world o
  old_has o is =
      let r = remains_is app o (contents_in app (K.held old)) (is ∙ ap (λ (c : Contents). Some c) contents_before) in
      subst (λ (x : Option Held). HasStoresOf world x) (sym r.is)
      (inl (stores_same none_kept 0 world (K.held old) r.held (λ b le. same_regions app (K.held old) r.held (r.store ∙ sym stands_before) r.rest b) whole.stores))

  new_has : (o : Option Held) (n : ℕ) → remains_in app o ≡ Some (record { store = (D.contents e).store; rest = (D.contents d).rest; number = n }) → HasStoresOf (set world app then) o
  new_has o n is =
      let r = remains_is app o (record { store = (D.contents e).store; rest = rest_of app (K.held old); number = n })
      (is ∙ ap (λ (c : Contents). Some (record { store = (D.contents e).store; rest = c.rest; number = n })) contents_before) in
      subst (λ (x : Option Held). HasStoresOf (set world app then) x) (sym r.is)
      (inl (whole_set world app (K.held old) r.held then (λ b other. same_region app b (K.held old) r.held r.rest other)
      (r.store ∙ ap (λ (s : Store). Ok s) (sym store_then)) whole.stores))

  doubt_has : (o : Option Held) (store : Store) (n : ℕ) → then.in_doubt ≡ Some store → remains_in app o ≡ Some (record { store = store; rest = (D.contents d).rest; number = n }) →
      HasStoresOf (set world app then) o
  doubt_has o store n doubt is =
      let r = remains_is app o (record { store = store; rest = rest_of app (K.held old); number = n })
      (is ∙ ap (λ (c : Contents). Some (record { store = store; rest = c.rest; number = n })) contents_before) in
      subst (λ (x : Option Held). HasStoresOf (set world app then) x) (sym r.is)
      (inr (
        app,
        record { machine = then; there = get_set world app m then here; doubt = ap (λ (x : Option Store). is_some x) doubt },
        whole_kept world app (K.held old) r.held then (λ b other. same_region app b (K.held old) r.held r.rest other)
            (r.store ∙ ap (λ (x : Option Store). Ok (store_found true then.store x)) (sym doubt)) whole.stores,
      ))

  left_within : (k : StoreKind) (doubt : Option Store) (o : Option Held) → then.in_doubt ≡ doubt → LeftByTurn k doubt (D.contents d) (D.contents e) (remains_in app o) →
      HasStoresOf world o ⊎ HasStoresOf (set world app then) o
  left_within store_kinds.Plain doubt o is left = ⊎_elim
      (λ (same : remains_in app o ≡ Some (D.contents d)). inl (old_has o same))
      (λ (further : (n : ℕ) × ((D.contents d).number < n) × (remains_in app o ≡ Some (record { store = (D.contents e).store; rest = (D.contents d).rest; number = n }))). inr
      (new_has o further.0 further.2)) left
  left_within (store_kinds.Lost true) (Some store) o is left = ⊎_elim
      (λ (same : remains_in app o ≡ Some (D.contents d)). inl (old_has o same))
      (λ (further : (n : ℕ) × ((D.contents d).number < n) × (remains_in app o ≡ Some (record { store = store; rest = (D.contents d).rest; number = n }))). inr
      (doubt_has o store further.0 is further.2)) left
  left_within (store_kinds.Lost true) None o is left = inl (old_has o left)
  left_within (store_kinds.Lost false) doubt o is left = inl (old_has o left)
  left_within store_kinds.Corrupted doubt o is left = inl (old_has o left)

  pub each_within : (o : Option Held) → K.left_since new (K.moment old) o → HasStoresOf world o ⊎ HasStoresOf (set world app then) o
  each_within o left =
      elim (K.condition old).lost as (λ b. (K.condition old).lost ≡ b → HasStoresOf world o ⊎ HasStoresOf (set world app then) o) [
        | true ↦ λ lost. inl (left_has world (K.held old).sequence o (found_lost lost (K.moment old) o refl left))
        | false ↦ λ works.
            left_within (store_kind kind) then.in_doubt o refl ((crash works).any_moment.each (remains_in app o)
            (subst (λ u. D.left_since e u (remains_in app o)) (sym moment_before) (from_new (K.moment old) o left)))
      ] refl

  -- ---- the world after the turn

  abbrev made : AppEvent
  made = record { app = app; event = turn_of kind i }

  met_plain : (k : TurnKind) → ((changes : Bool) → k ≢ kinds.Lost changes) → met_by_others behaviour (turn_of k i) world ≡ world
  met_plain kinds.Plain served = refl
  met_plain (kinds.Lost changes) served = absurd (served changes refl)
  met_plain kinds.Starved served = refl
  met_plain kinds.Corrupted served = refl

  stepped : world_step behaviour world made ≡ set (met_by_others behaviour (turn_of kind i) world) app then
  stepped = ap (λ (o : Option (Machine A)). moved_at behaviour world app (turn_of kind i) o) here

  pub stepped_plain : ((changes : Bool) → kind ≢ kinds.Lost changes) → world_step behaviour world made ≡ set world app then
  stepped_plain served = stepped ∙ ap (λ (w : World A). set w app then) (met_plain kind served)

  -- a turn that didn't lose the storage
  pub stand_plain : ((changes : Bool) → kind ≢ kinds.Lost changes) → StandFor K (set sides app after) new (world_step behaviour world made)
  stand_plain served = subst (λ (w : World A). StandFor K (set sides app after) new w) (sym (stepped_plain served)) (record {
    honest = honest_after;
    sides_are = sides_set sides world app after then whole.sides_are after_is;
    stores = stores_after;
    left = left_after;
    calm = calm_after;
    single = single_after;
  })

  -- one that lost it: every machine has lost it then
  lost_is : (changes : Bool) → kind ≡ kinds.Lost changes → ((D.status d).lost ≡ false) × ((D.status e).lost ≡ true)
  lost_is changes is =
      let cause : IsKind (store_kinds.Lost changes) (D.status d) (D.status e) = subst (λ (k : TurnKind). IsKind (store_kind k) (D.status d) (D.status e)) is t.turn.status.cause in
      (cause.0, cause.1)

  then_lost : (changes : Bool) → kind ≡ kinds.Lost changes → then.lost ≡ true
  then_lost changes is = ap (λ (x : Machine A). x.lost) after_is.parts ∙ t.turn.lost ∙ (lost_is changes is).1

  pub stepped_lost : (changes : Bool) → kind ≡ kinds.Lost changes → world_step behaviour world made ≡ all_lost (set world app then)
  stepped_lost changes is =
      stepped
      ∙ ap (λ (k : TurnKind). set (met_by_others behaviour (turn_of k i) world) app then) is
      ∙ ap (λ (x : Machine A). set (all_lost world) app x) (sym (ap (λ b. record then { lost = b }) (sym (then_lost changes is))))
      ∙ sym (map_set (λ (x : Machine A). record x { lost = true }) world app then)

  pub stand_lost : (changes : Bool) → kind ≡ kinds.Lost changes → (left : List (AppSide A)) → AreSides left (all_lost (set world app then)) → StandFor K left new (world_step behaviour world made)
  stand_lost changes is left are = subst (λ (w : World A). StandFor K left new w) (sym (stepped_lost changes is)) (record {
    honest = honest_after;
    sides_are = are;
    stores = stores_lost none_kept 0 (set world app then) (K.held new) stores_after;
    left = λ o was. left_lost_world (set world app then) (K.held new).sequence o (left_after o was);
    calm = λ works. absurd (let f : true ≡ false = sym (lost_is changes is).1 ∙ lost_after ∙ works in cc);
    single = λ one other first second. single_after one other (doubt_unlost one (set world app then) first) (doubt_unlost other (set world app then) second);
  })

  -- a crash within it
  pub within_turn : IsWithin K world (world_step behaviour world made) old new
  within_turn = record {
    later = later;
    each = λ o left.
        elim_kind kind (λ served. subst (λ (w : World A). HasStoresOf world o ⊎ HasStoresOf w o) (sym (stepped_plain served)) (each_within o left))
        (λ changes is. subst (λ (w : World A). HasStoresOf world o ⊎ HasStoresOf w o) (sym (stepped_lost changes is))
        (⊎_elim (λ (was : HasStoresOf world o). inl was) (λ (is_now : HasStoresOf (set world app then) o). inr (has_lost (set world app then) o is_now)) (each_within o left)));
  }

rose_by : (kind : TurnKind) (old new : Status) → IsKind (store_kind kind) old new → RoseIfLost kind old.faults new.faults
rose_by kinds.Plain old new cause = tt
rose_by (kinds.Lost changes) old new cause = cause.2
rose_by kinds.Starved old new cause = tt
rose_by kinds.Corrupted old new cause = tt

-- what a turn leaves of the counts, whatever the board
pub counts_kept : {V A : Type 0} (K : VolumeKeeper V) (behaviour : Behaviour A) (app i : ℕ) (kind : TurnKind) (replies : List Reply) (before after : AppSide A)
    (taken kept : Option Directory) (old new : V) → TurnsOver K behaviour app i kind replies before after taken kept old new → KeepsCounts kind (K.condition old) (K.condition new)
counts_kept {V} K behaviour app i kind replies before after taken kept old new t =
    let D : Keeper (KeptDir V) = kept_keeper K in
    let faults_old : (D.status t.dir_before).faults ≡ (K.condition old).faults = ap (λ (v : V). (K.condition v).faults) t.over_old.same_volume in
    let faults_new : (D.status t.dir_after).faults ≡ (K.condition new).faults = ap (λ (v : V). (K.condition v).faults) t.over_new.same_volume in
    record {
      faults = let le = t.turn.status.later in omega (arith, le, faults_old, faults_new);
      rose = subst (λ n. RoseIfLost kind n (K.condition new).faults) faults_old (subst (λ n. RoseIfLost kind (D.status t.dir_before).faults n) faults_new
          (rose_by kind (D.status t.dir_before) (D.status t.dir_after) t.turn.status.cause));
      foundation = sym (ap (λ (v : V). (K.condition v).foundation) t.over_new.same_volume) ∙ volume_stays K t.dir_before.region t.dir_after.region t.turn.status.foundation
          ∙ ap (λ (v : V). (K.condition v).foundation) t.over_old.same_volume;
    }

-- and what the volume stands on goes on keeping to its rules
pub below_kept : {V A : Type 0} (K : VolumeKeeper V) (behaviour : Behaviour A) (app i : ℕ) (kind : TurnKind) (replies : List Reply) (before after : AppSide A)
    (taken kept : Option Directory) (old new : V) → TurnsOver K behaviour app i kind replies before after taken kept old new → K.honest_below old → K.honest_below new
below_kept K behaviour app i kind replies before after taken kept old new t below =
    subst K.honest_below t.over_new.same_volume (t.turn.keeps.below (subst K.honest_below (sym t.over_old.same_volume) below))

-- what an answer of damage tells of a store over a region is damage of the region
damage_under : {V : Type 0} (K : VolumeKeeper V) (region : ℕ) (volume : V) (kept : Option Directory) (d : KeptDir V) → IsOver region volume kept d → (answer : StoreAnswer)
    → damage_of K d.region answer
    → IsTrue K.tells_reads → HasDamage K region volume
damage_under K region volume kept d over stores.NotFound told tells = absurd told
damage_under K region volume kept d over stores.Exists told tells = absurd told
damage_under K region volume kept d over stores.NoSpace told tells = absurd told
damage_under K region volume kept d over stores.Lost told tells = absurd told
damage_under K region volume kept d over stores.Failed told tells = absurd told
damage_under K region volume kept d over stores.NoMemory told tells = absurd told
damage_under {V} K region volume kept d over (stores.Corrupt tags) told tells =
    let shown = told tells in
    inl (
      shown.0,
      shown.1,
      tags,
      ap (λ (v : V). K.damage v region shown.0) (sym over.same_volume) ∙ ap (λ (r : ℕ). K.damage d.region.volume.now r shown.0) (sym over.same_region) ∙ shown.2,
    )
damage_under {V} K region volume kept d over (stores.Garbled leaf) told tells =
    let text : K.text d.region.volume.now d.region.number ≡ K.text volume region
    = ap (λ (v : V). K.text v d.region.number) over.same_volume ∙ ap (λ (r : ℕ). K.text volume r) over.same_region in
    inr (leaf, told.below, subst (λ (leaves : ℕ → List ℕ). IsTrue (breaks in_use leaves leaf)) text (told.breaks tells))

damage_by : {V : Type 0} (K : VolumeKeeper V) (region : ℕ) (volume : V) (kept : Option Directory) (d : KeptDir V) → IsOver region volume kept d → (kind : TurnKind)
    → ShowsDamage (store_kind kind) (damage_of K d.region) → MeetsDamage K region kind volume
damage_by K region volume kept d over kinds.Plain shown = tt
damage_by K region volume kept d over (kinds.Lost changes) shown = tt
damage_by K region volume kept d over kinds.Starved shown = tt
damage_by K region volume kept d over kinds.Corrupted shown = λ tells. damage_under K region volume kept d over shown.0 shown.1 tells

-- a turn that met damage met some that there is
pub damage_met : {V A : Type 0} (K : VolumeKeeper V) (behaviour : Behaviour A) (app i : ℕ) (kind : TurnKind) (replies : List Reply) (before after : AppSide A)
    (taken kept : Option Directory) (old new : V) → TurnsOver K behaviour app i kind replies before after taken kept old new → MeetsDamage K app kind new
damage_met K behaviour app i kind replies before after taken kept old new t = damage_by K app new kept t.dir_after t.over_new kind t.turn.damage
