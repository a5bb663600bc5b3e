-- A turn of one application over the storage: what is kept of the parts, the volume and the log.
use Rattle.app_api.specs.Behaviours.{Behaviour}
use Rattle.std.proofs.Common.{◌≡◌, ◌≢◌, ◌<◌, ◌≤◌, ◌+◌, ◌==◌, ℕ, zero, suc, Bool, true, false, List, [], ◌∷◌, Option, None, Some, if◌then◌else◌}
use Rattle.std.proofs.Common.{length, map, set, refl, sym, subst, ◌∙◌, ap, arith}
use Rattle.std.specs.Prelude.{slice_get}
use Rattle.std.proofs.lemmas.Bool.{eq-eqb, ne_eqb}
use Rattle.store_api.specs.Stores.{Store}
use Rattle.store_api.specs.Volumes.{Held, RestsAt, VolumeKeeper}
use Rattle.object_dir.proofs.HeldLemmas.{own_store as region_store}
use Rattle.object_dir.specs.Kept.{IsHeld}
use Rattle.object_dir.specs.Regions.{store_in}
use Rattle.region_plan.specs.declared.directory.Directory.{Directory}
use Rattle.alone.proofs.Storage.{damage_leaves_doubt, turn_leaves_doubt}
use Rattle.alone.specs.declared.reply.Reply.{Reply}
use Rattle.alone.specs.declared.turn.TurnKind.{TurnKind}
use Rattle.alone.specs.declared.turn.TurnKind.TheVariants as kinds
use Rattle.alone.specs.Machine.{Machine}
use Rattle.alone.specs.Step.{TurnLost, is_enabled, step}
use Rattle.app_side.specs.Represents.{Represents, event_of, machine_of, over}
use Rattle.app_side.specs.declared.side.AppSide.{AppSide}
use Rattle.tee_core.proofs.SideLemmas.{get_set, map_set, set_set, sides_set}
use Rattle.tee_core.proofs.Stores.{own_at}
use Rattle.tee_core.proofs.Turning.{after_is, doubt_back, held_after, left_stays, may, replies_are, stand_lost, stand_plain, stepped_lost, stepped_plain, stores_after, stores_stay}
use Rattle.tee_core.specs.Powers.{all_lost}
use Rattle.tee_core.specs.Directories.{AreHeld, kept_at}
use Rattle.tee_core.specs.Represents.{StandFor, none_kept}
use Rattle.tee_core.specs.Sides.{AreSides}
use Rattle.tee_core.specs.Turning.{TurnsOver}
use Rattle.tee_core.specs.World.{World}
use Rattle.shared_parts.specs.InStep.{StoragePart, part_of}
use Rattle.shared_parts.specs.StorageParts.{IsStoredFor, doubt_by, doubt_left}
use Rattle.shared_parts.specs.StorageParts.{part_by, parts_from}
use Rattle.shared_parts.specs.declared.storage.Loss.{Loss}

-- a machine in the place of another with the same part
pub swapped : {V A : Type 0} (K : VolumeKeeper V) (sides : List (AppSide A)) (volume : V) (world : World A) (app : ℕ) (side : AppSide A) (n m : Machine A)
    → slice_get world app ≡ Some n → part_of n ≡ part_of m → Represents side m → StandFor K sides volume world → StandFor K (set sides app side) volume (set world app m)
swapped K sides volume world app side n m here same stands whole =
    let store : m.store ≡ n.store = sym (ap (λ (p : StoragePart). p.store) same) in
    let doubt : m.in_doubt ≡ n.in_doubt = sym (ap (λ (p : StoragePart). p.in_doubt) same) in
    record {
      honest = whole.honest;
      sides_are = sides_set sides world app side m whole.sides_are stands;
      stores = stores_stay none_kept 0 app world (K.held volume) n m here store doubt whole.stores;
      left = λ o was. left_stays world (K.held volume).sequence app n m o here store doubt (whole.left o was);
      calm = λ works owner has. whole.calm works owner (doubt_back world app owner n m here doubt has);
      single = λ one other first second. whole.single one other (doubt_back world app one n m here doubt first) (doubt_back world app other n m here doubt second);
    }

-- all of them have lost their storage
abbrev pub lost_side : {A : Type 0} → AppSide A → AppSide A
lost_side side = record side { lost = true }

pub sides_lost : {A : Type 0} (ss : List (AppSide A)) (world : World A) → AreSides ss world → AreSides (map (λ s. lost_side s) ss) (all_lost world)
sides_lost [] [] are = tt
sides_lost [] (m ∷ world) are = absurd are
sides_lost (s ∷ ss) [] are = absurd are
sides_lost {A} (s ∷ ss) (m ∷ world) are = (record { doubt = are.0.doubt; parts = ap (λ (x : Machine A). record x { lost = true }) are.0.parts }, sides_lost ss world are.1)

parts_lost : {A : Type 0} (world : World A) → map (λ (m : Machine A). part_of m) (all_lost world) ≡ map (λ (m : Machine A). part_of m) world
parts_lost [] = refl
parts_lost (m ∷ world) = ap (λ ps. part_of m ∷ ps) (parts_lost world)

-- the machine at a place has the part there
map_at : {X Y : Type 0} (f : X → Y) (xs : List X) (i : ℕ) (y : Y) → slice_get (map f xs) i ≡ Some y → (x : X) × (slice_get xs i ≡ Some x) × (f x ≡ y)
map_at f [] i y here = absurd (let e : None ≡ Some y = here in cc)
map_at f (x ∷ xs) zero y here = (x, refl, (let e : Some (f x) ≡ Some y = here in cc))
map_at f (x ∷ xs) (suc i) y here = map_at f xs i y here

-- a machine without a doubt is what its application keeps, over its store
exact : {A : Type 0} (side : AppSide A) (m : Machine A) (store : Store) → Represents side m → m.store ≡ store → m.in_doubt ≡ None → m ≡ over store None (machine_of side)
exact {A} side m store stands same none =
    let doubt = ap (λ (x : Machine A). x.in_doubt) stands.parts in
    stands.parts ∙ ap (λ (s : Store). over s (if side.in_doubt then Some stands.doubt else None) (machine_of side)) same
    ∙ ap (λ (d : Option Store). over store d (machine_of side)) (sym doubt ∙ none)

-- a turn that didn't lose the storage leaves the change in doubt
doubt_stays : {A : Type 0} (behaviour : Behaviour A) (kind : TurnKind) (m : Machine A) (i : ℕ) → ((changes : Bool) → kind ≢ kinds.Lost changes) →
    (step behaviour m (event_of kind i)).machine.in_doubt ≡ m.in_doubt
doubt_stays behaviour kinds.Plain m i served = turn_leaves_doubt behaviour m i
doubt_stays behaviour (kinds.Lost changes) m i served = absurd (served changes refl)
doubt_stays behaviour kinds.Starved m i served = refl
doubt_stays behaviour kinds.Corrupted m i served = damage_leaves_doubt behaviour m i

module _ {V A : Type 0} (K : VolumeKeeper V) (behaviour : Behaviour A) where
  pub parts_length : (loss : Option (Loss V A)) (k : ℕ) (seen : List V) → length (parts_from K behaviour loss k seen) ≡ length seen
  parts_length loss k [] = refl
  parts_length loss k (s ∷ seen) = ap suc (parts_length loss (k + 1) seen)

  -- one application's view of the volume in place of another
  pub parts_set : (loss : Option (Loss V A)) (k i n : ℕ) (seen : List V) (v : V) → k + i ≡ n
      → parts_from K behaviour loss k (set seen i v) ≡ set (parts_from K behaviour loss k seen) i (part_by K behaviour loss n v)
  parts_set loss k i n [] v same = refl
  parts_set loss k zero n (s ∷ seen) v same = ap (λ j. part_by K behaviour loss j v ∷ parts_from K behaviour loss (k + 1) seen) (let e : k ≡ n = omega (arith, same) in e)
  parts_set loss k (suc i) n (s ∷ seen) v same = ap (λ ps. part_by K behaviour loss k s ∷ ps) (parts_set loss (k + 1) i n seen v (omega (arith, same)))

  pub part_here : (loss : Option (Loss V A)) (k i n : ℕ) (seen : List V) (v : V) → k + i ≡ n → slice_get seen i ≡ Some v
      → slice_get (parts_from K behaviour loss k seen) i ≡ Some (part_by K behaviour loss n v)
  part_here loss k i n [] v same here = absurd (let e : None ≡ Some v = here in cc)
  part_here loss k zero n (s ∷ seen) v same here =
      let is : s ≡ v = let e : Some s ≡ Some v = here in cc in
      let at : k ≡ n = omega (arith, same) in
      ap (λ j. Some (part_by K behaviour loss j s)) at ∙ ap (λ (w : V). Some (part_by K behaviour loss n w)) is
  part_here loss k (suc i) n (s ∷ seen) v same here = part_here loss (k + 1) i n seen v (omega (arith, same)) here

  -- a loss leaves the parts of the others
  none_beside : (loss : Loss V A) (k : ℕ) → (loss.app == k) ≡ false → doubt_by K behaviour (Some loss) k ≡ None
  none_beside loss k other = rw other refl

  pub parts_lost_behind : (loss : Loss V A) (k : ℕ) (seen : List V) → loss.app < k → parts_from K behaviour (Some loss) k seen ≡ parts_from K behaviour None k seen
  parts_lost_behind loss k [] behind = refl
  parts_lost_behind loss k (s ∷ seen) behind =
      ap (λ (d : Option Store). (let p : StoragePart = record { store = store_in k (K.held s); in_doubt = d } in p) ∷ parts_from K behaviour (Some loss) (k + 1) seen)
      (none_beside loss k (ne_eqb loss.app k (λ same. absurd (omega (arith, behind, same)))))
      ∙ ap (λ ps. part_by K behaviour None k s ∷ ps) (parts_lost_behind loss (k + 1) seen (omega (arith, behind)))

  pub parts_lost_set : (loss : Loss V A) (k i : ℕ) (seen : List V) (v : V) → k + i ≡ loss.app
      → parts_from K behaviour (Some loss) k (set seen i v) ≡ set (parts_from K behaviour None k seen) i (part_by K behaviour (Some loss) loss.app v)
  parts_lost_set loss k i [] v same = refl
  parts_lost_set loss k zero (s ∷ seen) v same =
      let at : k ≡ loss.app = omega (arith, same) in
      ap (λ j. part_by K behaviour (Some loss) j v ∷ parts_from K behaviour (Some loss) (k + 1) seen) at
      ∙ ap (λ ps. part_by K behaviour (Some loss) loss.app v ∷ ps) (parts_lost_behind loss (k + 1) seen (omega (arith, at)))
  parts_lost_set loss k (suc i) (s ∷ seen) v same =
      ap (λ (d : Option Store). (let p : StoragePart = record { store = store_in k (K.held s); in_doubt = d } in p) ∷ parts_from K behaviour (Some loss) (k + 1) (set seen i v))
      (none_beside loss k (ne_eqb loss.app k (λ e. absurd (omega (arith, same, e)))))
      ∙ ap (λ ps. part_by K behaviour None k s ∷ ps) (parts_lost_set loss (k + 1) i seen v (omega (arith, same)))

-- a turn of one application
module _ {V A : Type 0} (K : VolumeKeeper V)
    (rests : (v : V) → K.honest v → (K.condition v).lost ≡ false → RestsAt K v (K.held v))
    (since : (v : V) (t u : ℕ) (o : Option Held) → t ≤ u → K.left_since v u o → K.left_since v t o)
    (behaviour : Behaviour A) (seen : List V) (app i : ℕ) (kind : TurnKind) (replies : List Reply)
    (before after : AppSide A) (taken kept : Option Directory) (old new : V) (m : Machine A) (stands : Represents before m) (right : IsHeld ((K.held old).leaves app) taken)
    (t : TurnsOver K behaviour app i kind replies before after taken kept old new) where
  abbrev made : Machine A
  made = (step behaviour m (event_of kind i)).machine

  module _ (loss : Option (Loss V A)) (v : V) (there : slice_get seen app ≡ Some v) (own : part_by K behaviour loss app v ≡ part_of m)
      (was : IsStoredFor K A (parts_from K behaviour loss 0 seen) old) where
    abbrev parts : List StoragePart
    parts = parts_from K behaviour loss 0 seen

    found : (n : Machine A) × (slice_get was.world app ≡ Some n) × (part_of n ≡ part_by K behaviour loss app v)
    found = map_at (λ (n : Machine A). part_of n) was.world app (part_by K behaviour loss app v)
        (ap (λ (ps : List StoragePart). slice_get ps app) was.are ∙ part_here K behaviour loss 0 app app seen v (omega arith) there)

    abbrev world : World A
    world = set was.world app m

    here : slice_get world app ≡ Some m
    here = get_set was.world app found.0 m found.1

    whole : StandFor K (set was.sides app before) old world
    whole = swapped K was.sides old was.world app before found.0 m found.1 (found.2 ∙ own) stands was.stands

    pub turn_may : is_enabled m (event_of kind i) ≡ true
    turn_may = may K rests since behaviour (set was.sides app before) world app i kind replies before after taken kept old new m here stands whole right t

    pub turn_told : replies ≡ (step behaviour m (event_of kind i)).replies
    turn_told = replies_are K rests since behaviour (set was.sides app before) world app i kind replies before after taken kept old new m here stands whole right t

    pub turn_stands : Represents after made
    turn_stands = after_is K rests since behaviour (set was.sides app before) world app i kind replies before after taken kept old new m here stands whole right t

    -- the directories that are kept stay right
    pub turn_held : (dirs then_dirs : List (Option Directory)) → kept_at then_dirs app ≡ kept → ((other : ℕ) → other ≢ app → kept_at then_dirs other ≡ kept_at dirs other)
        → AreHeld (K.held old).leaves dirs → AreHeld (K.held new).leaves then_dirs
    turn_held = held_after K rests since behaviour (set was.sides app before) world app i kind replies before after taken kept old new m here stands whole right t

    store_then : made.store ≡ store_in app (K.held new)
    store_then =
        let stores = stores_after K rests since behaviour (set was.sides app before) world app i kind replies before after taken kept old new m here stands whole right t in
        sym (region_store app (K.held new) made.store (own_at (set world app made) app (K.held new) made (get_set world app m made here) stores))

    world_is : map (λ (x : Machine A). part_of x) (set world app made) ≡ set parts app (part_of made)
    world_is =
        ap (λ (w : World A). map (λ (x : Machine A). part_of x) w) (set_set was.world app m made)
        ∙ (map_set (λ (x : Machine A). part_of x) was.world app made ∙ ap (λ (ps : List StoragePart). set ps app (part_of made)) was.are)

    module _ (served : (changes : Bool) → kind ≢ kinds.Lost changes) where
      pub part_plain : part_by K behaviour loss app new ≡ part_of made
      part_plain =
          let doubt : made.in_doubt ≡ doubt_by K behaviour loss app = doubt_stays behaviour kind m i served ∙ sym (ap (λ (p : StoragePart). p.in_doubt) own) in
          ap (λ (s : Store). (let p : StoragePart = record { store = s; in_doubt = doubt_by K behaviour loss app } in p)) (sym store_then)
          ∙ ap (λ (d : Option Store). (let p : StoragePart = record { store = made.store; in_doubt = d } in p)) (sym doubt)

      pub stored_plain : IsStoredFor K A (parts_from K behaviour loss 0 (set seen app new)) new
      stored_plain = record {
        sides = set (set was.sides app before) app after;
        world = set world app made;
        are = world_is ∙ (ap (λ (p : StoragePart). set parts app p) (sym part_plain) ∙ sym (parts_set K behaviour loss 0 app app seen new (omega arith)));
        stands = subst (λ (w : World A). StandFor K (set (set was.sides app before) app after) new w)
            (stepped_plain K rests since behaviour (set was.sides app before) world app i kind replies before after taken kept old new m here stands whole right t served)
            (stand_plain K rests since behaviour (set was.sides app before) world app i kind replies before after taken kept old new m here stands whole right t served);
      }

  -- one that lost the storage, which was there before
  module _ (changes : Bool) (is : kind ≡ kinds.Lost changes) (loss : Loss V A) (v : V) (there : slice_get seen app ≡ Some v) (own : part_by K behaviour None app v ≡ part_of m)
      (was : IsStoredFor K A (parts_from K behaviour None 0 seen) old)
      (named : loss.app ≡ app) (at : loss.instance ≡ i) (side_is : loss.side.value ≡ before) (volume_is : loss.volume.value ≡ old) where
    store_before : m.store ≡ store_in app (K.held old)
    store_before =
        let stands_whole = whole None v there own was in
        sym (region_store app (K.held old) m.store (own_at (world None v there own was) app (K.held old) m (here None v there own was) stands_whole.stores))

    machine_is : m ≡ over (store_in app (K.held old)) None (machine_of before)
    machine_is = exact before m (store_in app (K.held old)) stands store_before (sym (ap (λ (p : StoragePart). p.in_doubt) own))

    doubt_is : doubt_by K behaviour (Some loss) app ≡ made.in_doubt
    doubt_is =
        ap (λ b. if b then doubt_left K behaviour loss else None) (eq-eqb loss.app app named)
        ∙ ap (λ k. (step behaviour (over (store_in k (K.held loss.volume.value)) None (machine_of loss.side.value)) (TurnLost loss.instance)).machine.in_doubt) named
        ∙ ap (λ (w : V). (step behaviour (over (store_in app (K.held w)) None (machine_of loss.side.value)) (TurnLost loss.instance)).machine.in_doubt) volume_is
        ∙ ap (λ (s : AppSide A). (step behaviour (over (store_in app (K.held old)) None (machine_of s)) (TurnLost loss.instance)).machine.in_doubt) side_is
        ∙ ap (λ j. (step behaviour (over (store_in app (K.held old)) None (machine_of before)) (TurnLost j)).machine.in_doubt) at
        ∙ ap (λ (x : Machine A). (step behaviour x (TurnLost i)).machine.in_doubt) (sym machine_is)
        ∙ ap (λ (k : TurnKind). (step behaviour m (event_of k i)).machine.in_doubt) (sym is)

    pub part_lost : part_by K behaviour (Some loss) app new ≡ part_of made
    part_lost =
        ap (λ (s : Store). (let p : StoragePart = record { store = s; in_doubt = doubt_by K behaviour (Some loss) app } in p)) (sym (store_then None v there own was))
        ∙ ap (λ (d : Option Store). (let p : StoragePart = record { store = made.store; in_doubt = d } in p)) doubt_is

    pub stored_lost : IsStoredFor K A (parts_from K behaviour (Some loss) 0 (set seen app new)) new
    stored_lost =
        let sides : List (AppSide A) = set (set was.sides app before) app after in
        let w : World A = world None v there own was in
        let left : List (AppSide A) = map (λ s. lost_side s) sides in
        let are : AreSides sides (set w app made) = sides_set (set was.sides app before) w app after made (whole None v there own was).sides_are (turn_stands None v there own was) in
        record {
          sides = left;
          world = all_lost (set w app made);
          are = parts_lost (set w app made) ∙ (world_is None v there own was ∙ (ap (λ (p : StoragePart). set (parts_from K behaviour None 0 seen) app p) (sym part_lost)
              ∙ (ap (λ j. set (parts_from K behaviour None 0 seen) app (part_by K behaviour (Some loss) j new)) (sym named)
              ∙ sym (parts_lost_set K behaviour loss 0 app seen new (let e = named in omega (arith, e))))));
          stands = subst (λ (x : World A). StandFor K left new x)
              (stepped_lost K rests since behaviour (set was.sides app before) w app i kind replies before after taken kept old new m (here None v there own was) stands
              (whole None v there own was) right t changes is)
              (stand_lost K rests since behaviour (set was.sides app before) w app i kind replies before after taken kept old new m (here None v there own was) stands
              (whole None v there own was) right t changes is left
              (sides_lost sides (set w app made) are));
        }
