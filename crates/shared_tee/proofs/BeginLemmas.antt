-- Applications that have run nothing, and seats of a storage that was just opened.
use Rattle.app_api.specs.Behaviours.{Behaviour}
use Rattle.app_api.specs.declared.host.Host.{Host}
use Rattle.std.proofs.Common.{◌≡◌, ◌<◌, ◌+◌, ◌-◌, ◌++◌, ℕ, zero, suc, Bool, true, false, List, [], ◌∷◌, None, Some, length, take, drop, refl, sym, subst, ◌∙◌, ap, arith}
use Rattle.std.specs.Prelude.{if◌then◌else◌, nat_le}
use mathlib.Core.List.{IsPrefix}
use Rattle.store_api.specs.Stores.{Store, empty_store}
use Rattle.store_api.specs.Volumes.{VolumeKeeper}
use Rattle.object_dir.specs.Regions.{store_in}
use Rattle.turn_cell.specs.View.{left_at, right_at, view_after_join}
use Rattle.turn_cell.specs.Words.{TableId}
use Rattle.turn_cell.specs.declared.view.SeatView.{SeatView}
use Rattle.turn_cell.specs.declared.view.Turn.TheVariants.{Free}
use Rattle.alone.specs.Logs.{Logged, machine_by}
use Rattle.alone.specs.Machine.{Machine, start}
use Rattle.app_side.specs.Represents.{Represents, doubtful, is_lost, machine_of, over}
use Rattle.app_side.specs.declared.side.AppSide.{AppSide}
use Rattle.tee_core.specs.Sides.{IsNoneInDoubt}
use Rattle.shared_parts.proofs.HostedLemmas.{first_prefix, some_prefix}
use Rattle.shared_parts.specs.HostedApps.{IsNewSeat, IsSeatFor, Origin}
use Rattle.shared_parts.specs.InStep.{StoragePart, part_of}
use Rattle.shared_parts.specs.StorageParts.{AreOpened, IsMarked, Opened, StorageEntry, first_of, part_at}
use Rattle.shared_tee.specs.Making.{AreFresh, AreIdle, ComesBack, IsIdle, opened_parts, opened_seat, origin_over, origins_of, origins_over}

-- ---- applications that have run nothing

-- one application more
pub sides_more : {A : Type 0} (seed : List ℕ) (k n : ℕ) (hosts : List (Host A)) (sides : List (AppSide A)) (host : Host A) (side : AppSide A) → k + length sides ≡ n → AreFresh seed k hosts sides
    → ((store : Store) → Represents side (start host n seed store)) → is_lost side ≡ false → AreFresh seed k (hosts ++ host ∷ []) (sides ++ side ∷ [])
sides_more seed k n [] [] host side at fresh stands works =
    (subst (λ (i : ℕ). (store : Store) → Represents side (start host i seed store)) (let e : n ≡ k = omega (arith, at) in e) stands, works, tt)
sides_more seed k n [] (s ∷ sides) host side at fresh stands works = absurd fresh
sides_more seed k n (h ∷ hosts) [] host side at fresh stands works = absurd fresh
sides_more seed k n (h ∷ hosts) (s ∷ sides) host side at fresh stands works =
    (fresh.0, fresh.1, sides_more seed (k + 1) n hosts sides host side (omega (arith, at)) fresh.2 stands works)

-- there is one for each host
pub sides_count : {A : Type 0} (seed : List ℕ) (k : ℕ) (hosts : List (Host A)) (sides : List (AppSide A)) → AreFresh seed k hosts sides → length sides ≡ length hosts
sides_count seed k [] [] fresh = refl
sides_count seed k [] (s ∷ sides) fresh = absurd fresh
sides_count seed k (h ∷ hosts) [] fresh = absurd fresh
sides_count seed k (h ∷ hosts) (s ∷ sides) fresh = ap suc (sides_count seed (k + 1) hosts sides fresh.2)

-- no store is in doubt where none is there
none_doubtful : (there : Bool) (doubt : Store) → None ≡ doubtful there doubt → there ≡ false
none_doubtful false doubt is = refl
none_doubtful true doubt is = absurd (let e : None ≡ Some doubt = is in cc)

module _ {A : Type 0} (seed : List ℕ) (k : ℕ) (host : Host A) (side : AppSide A) (stands : (store : Store) → Represents side (start host k seed store)) where
  calm_one : side.in_doubt ≡ false
  calm_one = none_doubtful side.in_doubt (stands empty_store).doubt (ap (λ (m : Machine A). m.in_doubt) (stands empty_store).parts)

  index_one : (machine_of side).index ≡ k
  index_one = sym (ap (λ (m : Machine A). m.index) (stands empty_store).parts)

  -- over a store it is the machine at its start
  started : (store : Store) → over store None (machine_of side) ≡ start host k seed store
  started store = sym ((stands store).parts ∙ ap (λ b. over store (doubtful b (stands store).doubt) (machine_of side)) calm_one)

pub idle : {A : Type 0} (seed : List ℕ) (k : ℕ) (hosts : List (Host A)) (sides : List (AppSide A)) → AreFresh seed k hosts sides → AreIdle k sides
idle seed k [] [] fresh = tt
idle seed k [] (s ∷ sides) fresh = absurd fresh
idle seed k (h ∷ hosts) [] fresh = absurd fresh
idle seed k (h ∷ hosts) (s ∷ sides) fresh = ((index_one seed k h s fresh.0, calm_one seed k h s fresh.0, fresh.1), idle seed (k + 1) hosts sides fresh.2)

pub none_in_doubt : {A : Type 0} (k : ℕ) (sides : List (AppSide A)) → AreIdle k sides → IsNoneInDoubt sides
none_in_doubt k [] are = tt
none_in_doubt k (s ∷ sides) are = (are.0.1, none_in_doubt (k + 1) sides are.1)

-- the next one
pub idle_at : {A : Type 0} (k n : ℕ) (front : List (AppSide A)) (side : AppSide A) (rest : List (AppSide A)) → k + length front ≡ n → AreIdle k (front ++ side ∷ rest) → IsIdle n side
idle_at k n [] side rest at are = subst (λ (i : ℕ). IsIdle i side) (let e : k ≡ n = omega (arith, at) in e) are.0
idle_at k n (s ∷ front) side rest at are = idle_at (k + 1) n front side rest (omega (arith, at)) are.1

-- their origins are those of the hosts
pub origins_begun : {V A : Type 0} (K : VolumeKeeper V) (storage : TableId) (apps : ℕ) (volume : V) (seed : List ℕ) (k : ℕ) (hosts : List (Host A)) (sides : List (AppSide A))
    → AreFresh seed k hosts sides → origins_over K storage apps volume k sides ≡ origins_of K storage apps volume seed k hosts
origins_begun K storage apps volume seed k [] [] fresh = refl
origins_begun K storage apps volume seed k [] (s ∷ sides) fresh = absurd fresh
origins_begun K storage apps volume seed k (h ∷ hosts) [] fresh = absurd fresh
origins_begun {V} {A} K storage apps volume seed k (h ∷ hosts) (s ∷ sides) fresh =
    ap (λ (m : Machine A). (let o : Origin V A = record { storage = storage; opened = Opened apps volume; machine = m } in o) ∷ origins_over K storage apps volume (k + 1) sides)
    (started seed k h s fresh.0 (store_in k (K.held volume)))
    ∙ ap (λ (os : List (Origin V A)). (let o : Origin V A = record { storage = storage; opened = Opened apps volume; machine = start h k seed (store_in k (K.held volume)) } in o) ∷ os)
    (origins_begun K storage apps volume seed (k + 1) hosts sides fresh.2)

-- ---- the parts of a storage that was just opened

-- a list of one part
one_is : (xs : List StoragePart) (p : StoragePart) → length xs ≡ 1 → part_at xs 0 ≡ p → xs ≡ p ∷ []
one_is [] p one is = absurd (omega (arith, one))
one_is (x ∷ []) p one is = ap (λ (q : StoragePart). q ∷ []) is
one_is (x ∷ y ∷ xs) p one is = absurd (omega (arith, one))

module _ {V : Type 0} (K : VolumeKeeper V) (volume : V) where
  pub opened_length : (app count : ℕ) → length (opened_parts K volume app count) ≡ count
  opened_length app zero = refl
  opened_length app (suc count) = ap suc (opened_length (app + 1) count)

  -- those of neighbours
  opened_joined : (app n next m total : ℕ) → app + n ≡ next → n + m ≡ total → opened_parts K volume app n ++ opened_parts K volume next m ≡ opened_parts K volume app total
  opened_joined app zero next m total at sum =
      ap (λ (i : ℕ). opened_parts K volume i m) (let e : next ≡ app = omega (arith, at) in e) ∙ ap (λ (i : ℕ). opened_parts K volume app i) (let e : m ≡ total = omega (arith, sum) in e)
  opened_joined app (suc n) next m zero at sum = absurd (omega (arith, sum))
  opened_joined app (suc n) next m (suc total) at sum =
      ap (λ (ps : List StoragePart). (let p : StoragePart = record { store = store_in app (K.held volume); in_doubt = None } in p) ∷ ps)
      (opened_joined (app + 1) n next m total (omega (arith, at)) (omega (arith, sum)))

  -- a list of parts that has each of them is that of them all
  opened_each : (app count : ℕ) (xs : List StoragePart) → length xs ≡ count
      → ((i : ℕ) → i < count → part_at xs i ≡ record { store = store_in (app + i) (K.held volume); in_doubt = None }) → xs ≡ opened_parts K volume app count
  opened_each app zero [] each part = refl
  opened_each app zero (x ∷ xs) each part = absurd (omega (arith, each))
  opened_each app (suc count) [] each part = absurd (omega (arith, each))
  opened_each app (suc count) (x ∷ xs) each part =
      ap (λ (p : StoragePart). p ∷ xs)
      (part 0 (omega arith) ∙ ap (λ (i : ℕ). (let p : StoragePart = record { store = store_in i (K.held volume); in_doubt = None } in p)) (let e : app + 0 ≡ app = omega arith in e))
      ∙ ap (λ (ps : List StoragePart). (let p : StoragePart = record { store = store_in app (K.held volume); in_doubt = None } in p) ∷ ps)
      (opened_each (app + 1) count xs (omega (arith, each))
      (λ i lt. part (suc i) (omega (arith, lt))
      ∙ ap (λ (j : ℕ). (let p : StoragePart = record { store = store_in j (K.held volume); in_doubt = None } in p)) (let e : app + suc i ≡ app + 1 + i = omega arith in e)))

  pub opened_all : (apps : ℕ) (parts : List StoragePart) → AreOpened K apps volume parts → parts ≡ opened_parts K volume 0 apps
  opened_all apps parts are = opened_each 0 apps parts are.each
      (λ i lt. are.part i lt ∙ ap (λ (j : ℕ). (let p : StoragePart = record { store = store_in j (K.held volume); in_doubt = None } in p)) (let e : i ≡ 0 + i = omega arith in e))

  -- the first of them, and those behind it
  first_opened : (app count : ℕ) → 0 < count → take (app + 1 - app) (opened_parts K volume app count) ≡ opened_parts K volume app 1
  first_opened app zero some = absurd (omega (arith, some))
  first_opened app (suc count) some = ap (λ n. take n (opened_parts K volume app (suc count))) (let e : app + 1 - app ≡ 1 = omega arith in e)

  behind_opened : (app count less : ℕ) → less + 1 ≡ count → drop (app + 1 - app) (opened_parts K volume app count) ≡ opened_parts K volume (app + 1) less
  behind_opened app zero less one = absurd (omega (arith, one))
  behind_opened app (suc count) less one =
      ap (λ n. drop n (opened_parts K volume app (suc count))) (let e : app + 1 - app ≡ 1 = omega arith in e)
      ∙ ap (λ (n : ℕ). opened_parts K volume (app + 1) n) (let e : count ≡ less = omega (arith, one) in e)

  module _ (apps app count : ℕ) (v w : SeatView StoragePart (StorageEntry V)) (is : v ≡ opened_seat K apps volume app count) where
    -- a cut behind the first part leaves that part
    pub left_opened : 0 < count → w ≡ left_at (app + 1) v → w ≡ opened_seat K apps volume app 1
    left_opened some cut =
        cut ∙ ap (λ (u : SeatView StoragePart (StorageEntry V)). left_at (app + 1) u) is
        ∙ ap (λ (parts : List StoragePart). record (opened_seat K apps volume app 1) { own = parts; original = parts }) (first_opened app count some)

    -- and gives the others
    pub right_opened : (less : ℕ) → less + 1 ≡ count → w ≡ right_at (app + 1) v → w ≡ opened_seat K apps volume (app + 1) less
    right_opened less one cut =
        cut ∙ ap (λ (u : SeatView StoragePart (StorageEntry V)). right_at (app + 1) u) is
        ∙ ap (λ (parts : List StoragePart). record (opened_seat K apps volume (app + 1) less) { own = parts; original = parts }) (behind_opened app count less one)

  module _ (apps app : ℕ) (v : SeatView StoragePart (StorageEntry V)) (is : v ≡ opened_seat K apps volume app 1) where
    -- such a seat is new
    pub new_seat : IsNewSeat app v
    new_seat = subst (λ (u : SeatView StoragePart (StorageEntry V)). IsNewSeat app u) (sym is)
        (record { seat = record { free = refl; place = refl; one = refl; began = omega arith }; fresh = refl; calm = refl; none = refl })

  -- ---- seats that come back

  pub opened_back : (apps app count : ℕ) (v : SeatView StoragePart (StorageEntry V)) → v ≡ opened_seat K apps volume app count → ComesBack K apps volume app count v
  opened_back apps app count v is = subst (λ (u : SeatView StoragePart (StorageEntry V)). ComesBack K apps volume app count u) (sym is)
      (record { free = refl; first = refl; size = opened_length app count; began = omega arith; opened = refl; parts = λ marked. refl })

  pub one_back : (apps app : ℕ) (v : SeatView StoragePart (StorageEntry V)) → IsSeatFor app v → first_of v.trail ≡ Opened apps volume
      → (IsMarked K (Opened apps volume) → part_at v.own 0 ≡ record { store = store_in app (K.held volume); in_doubt = None }) → ComesBack K apps volume app 1 v
  one_back apps app v seat opened part = record {
    free = seat.free;
    first = seat.place;
    size = seat.one;
    began = seat.began;
    opened = opened;
    parts = λ marked. one_is v.own (record { store = store_in app (K.held volume); in_doubt = None }) seat.one (part marked);
  }

  -- seats of neighbours come back as one
  pub joined_back : (apps app n next m total : ℕ) (v w u : SeatView StoragePart (StorageEntry V)) → app + n ≡ next → n + m ≡ total → ComesBack K apps volume app n v → ComesBack K apps volume next m w
      → u.turn ≡ Free → u ≡ view_after_join v w → length u.own ≡ length v.own + length w.own → IsPrefix v.trail u.trail → ComesBack K apps volume app total u
  joined_back apps app n next m total v w u at sum left right free joined size trail =
      let before : nat_le v.first w.first ≡ true = let a = left.first in let b = right.first in grind (arith, a, b, at) in
      record {
        free = free;
        first = ap (λ (x : SeatView StoragePart (StorageEntry V)). x.first) joined ∙ (let a = left.first in let b = right.first in omega (arith, a, b, at));
        size = let a = left.size in let b = right.size in omega (arith, size, a, b, sum);
        began = some_prefix v.trail u.trail left.began trail;
        opened = first_prefix v.trail u.trail left.began trail ∙ left.opened;
        parts = λ marked.
            ap (λ (x : SeatView StoragePart (StorageEntry V)). x.own) joined
            ∙ ap (λ b. if b then v.own ++ w.own else w.own ++ v.own) before
            ∙ ap (λ (ps : List StoragePart). ps ++ w.own) (left.parts marked)
            ∙ ap (λ (ps : List StoragePart). opened_parts K volume app n ++ ps) (right.parts marked)
            ∙ opened_joined app n next m total at sum;
      }

-- the seat of an application that began so and made no entry
pub unlogged_back : {V A : Type 0} (K : VolumeKeeper V) (behaviour : Behaviour A) (storage : TableId) (apps app : ℕ) (volume : V) (side : AppSide A) (origin : Origin V A) (log : List Logged)
    (v : SeatView StoragePart (StorageEntry V)) → origin ≡ origin_over K storage apps volume app side → log ≡ [] → (machine_of side).index ≡ app → IsSeatFor origin.machine.index v
    → first_of v.trail ≡ origin.opened → (IsMarked K origin.opened → part_at v.own 0 ≡ part_of (machine_by behaviour origin.machine log)) → ComesBack K apps volume app 1 v
unlogged_back {V} {A} K behaviour storage apps app volume side origin log v origin_is none index seat opened part =
    let opened_is : origin.opened ≡ Opened apps volume = ap (λ (o : Origin V A). o.opened) origin_is in
    one_back K volume apps app v
    (subst (λ (i : ℕ). IsSeatFor i v) (ap (λ (o : Origin V A). o.machine.index) origin_is ∙ index) seat)
    (opened ∙ opened_is)
    (λ marked. part (subst (λ (e : StorageEntry V). IsMarked K e) (sym opened_is) marked)
    ∙ ap (λ (l : List Logged). part_of (machine_by behaviour origin.machine l)) none
    ∙ ap (λ (o : Origin V A). part_of o.machine) origin_is)
