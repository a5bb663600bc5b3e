-- Cells of applications that have just begun: how they are made, undone and dealt.
use Rattle.app_api.specs.Behaviours.{Behaviour}
use Rattle.app_api.specs.declared.host.Host.{Host}
use Rattle.std.proofs.Common.{◌≡◌, ◌<◌, ◌+◌, ◌*◌, ◌++◌, ◌⊎◌, ℕ, zero, suc, List, [], ◌∷◌, None, Some, Result, Ok, Err, length, map, get_or, replicate, refl, sym, subst, ◌∙◌, ap, inl, inr}
use Rattle.std.proofs.Common.{⊎_elim, append-nil, append_assoc, length-append, arith}
use Rattle.std.proofs.lemmas.Bool.{eq-eqb}
use Rattle.std.proofs.lemmas.List.{get_or-replicate, length-map, length_push}
use Rattle.std.specs.Prelude.{OnOk, if◌then◌else◌, slice_get}
use mathlib.Core.List.{IsPrefix}
use Rattle.store_api.specs.Volumes.{VolumeKeeper}
use Rattle.turn_cell.specs.View.{opening_view}
use Rattle.turn_cell.specs.Words.{IsSeatOf, OwnsAll, TableId, cell_id, name_of, original_parts, view as known}
use Rattle.turn_cell.specs.declared.cell.TurnCell.{TurnCell}
use Rattle.turn_cell.specs.declared.view.SeatView.{SeatView}
use Rattle.alone.specs.Logs.{Logged, entries_by, machine_by}
use Rattle.app_side.specs.declared.side.AppSide.{AppSide}
use Rattle.shared_parts.specs.HostedApps.{AreOfClients, ClientPart, HostedEvent, HostedView, IsSeatFor, KeepsHosted, Origin, no_client, none_missed, parts_for, trail_with}
use Rattle.shared_parts.specs.InStep.{StoragePart, part_of}
use Rattle.shared_parts.specs.StorageParts.{IsMarked, StorageEntry, StorageView, first_of, part_at}
use Rattle.shared_parts.specs.declared.missed.Missed.{Missed}
use Rattle.shared_tee.proofs.BeginLemmas.{origins_begun, sides_count, unlogged_back}
use Rattle.shared_tee.proofs.PassLemmas.{part_for, trails_apart}
use Rattle.shared_tee.specs.Dealing.{fresh_pass, fresh_passes}
use Rattle.shared_tee.specs.Ending.{ArePasses}
use Rattle.shared_tee.specs.Making.{AreBegun, AreFresh, BeginsOver, BegunCell, ComesBack, IsBegun, all_fresh, origin_over, origins_over}
use Rattle.shared_tee.specs.Passes.{PassView, Places, origin_in}
use Rattle.shared_tee.specs.Shared.{IsAppCell, places_of}

-- ---- one cell

-- the parts of clients that did nothing
pub parts_fresh : (log : List Logged) (misses : List Missed) → log ≡ [] → misses ≡ replicate 8 none_missed → parts_for log 0 misses ≡ replicate 8 no_client
parts_fresh log misses none fresh = ap (λ (l : List Logged). parts_for l 0 misses) none ∙ ap (λ (ms : List Missed). parts_for [] 0 ms) fresh

-- an entry is one of its client
own_entry : (e : Logged) (log : List Logged) → entries_by e.client (e ∷ log) ≡ e ∷ entries_by e.client log
own_entry e log = ap (λ b. if b then e ∷ entries_by e.client log else entries_by e.client log) (eq-eqb e.client e.client refl)

-- a log of which no client made an entry has none
no_entries : (log : List Logged) (misses : List Missed) → AreOfClients log → length misses ≡ 8 → parts_for log 0 misses ≡ replicate 8 no_client → log ≡ []
no_entries [] misses clients eight fresh = refl
no_entries (e ∷ log) misses clients eight fresh =
    let few : e.client < 8 = clients.0 in
    let here = part_for (e ∷ log) 0 e.client e.client misses (omega arith) (omega (arith, eight, few)) in
    let none = ap (λ (ps : List ClientPart). get_or ps e.client no_client) fresh ∙ get_or-replicate 8 e.client no_client no_client few in
    let made : entries_by e.client (e ∷ log) ≡ [] = ap (λ (p : ClientPart). p.made) (sym here ∙ none) in
    absurd (let f : e ∷ entries_by e.client log ≡ [] = sym (own_entry e log) ∙ made in cc)

module _ {V A : Type 0} where
  -- a cell that was made of an application that did nothing
  pub is_begun : (app : ℕ) (origin : Origin V A) (h : HostedView V A) (begun : BegunCell V A) → h.origin ≡ origin → h.log ≡ [] → h.misses ≡ replicate 8 none_missed → origin.machine.index ≡ app
      → original_parts (λ (x : HostedView V A). parts_for x.log 0 x.misses) begun.0 ≡ parts_for h.log 0 h.misses → name_of begun.0 ≡ app → IsSeatOf begun.0 begun.1
      → known begun.1 ≡ opening_view (parts_for h.log 0 h.misses) (trail_with h.origin h.log) → IsBegun app origin begun
  is_begun app origin h begun origin_is none fresh index parts name own seat =
      let parts_are : parts_for h.log 0 h.misses ≡ replicate 8 no_client = parts_fresh h.log h.misses none fresh in
      record {
        cell = record { name = name; eight = ap (λ (ps : List ClientPart). length ps) (parts ∙ parts_are) };
        index = index;
        own = own;
        seat =
            seat
            ∙ ap (λ (ps : List ClientPart). opening_view ps (trail_with h.origin h.log)) parts_are
            ∙ ap (λ (l : List Logged). opening_view (replicate 8 no_client) (trail_with h.origin l)) none
            ∙ ap (λ (o : Origin V A). opening_view (replicate 8 no_client) (trail_with o [])) origin_is;
      }

  -- its seat has all parts
  pub owns_all : (app : ℕ) (origin : Origin V A) (begun : BegunCell V A) → IsBegun app origin begun → OwnsAll (λ (x : HostedView V A). parts_for x.log 0 x.misses) begun.0 begun.1
  owns_all app origin begun is = (
    ap (λ (v : SeatView ClientPart (HostedEvent V A)). v.first) is.seat,
    ap (λ (v : SeatView ClientPart (HostedEvent V A)). length v.own) is.seat ∙ sym is.cell.eight,
  )

  -- the application of a cell that is ended by such a seat did nothing
  pub closed_fresh : (app : ℕ) (origin : Origin V A) (begun : BegunCell V A) (h : HostedView V A) → IsBegun app origin begun → length h.misses ≡ 8 → AreOfClients h.log
      → parts_for h.log 0 h.misses ≡ (known begun.1).own → IsPrefix (known begun.1).trail (trail_with h.origin h.log) → (h.origin ≡ origin) × (h.log ≡ [])
  closed_fresh app origin begun h is eight clients parts trail = (
    (trails_apart origin h.origin [] h.log
        (subst (λ (v : SeatView ClientPart (HostedEvent V A)). IsPrefix v.trail (trail_with h.origin h.log)) is.seat trail)).0,
    no_entries h.log h.misses clients eight (parts ∙ ap (λ (v : SeatView ClientPart (HostedEvent V A)). v.own) is.seat),
  )

-- a cell that has begun, by other words for its place and for the storage
pub begun_at : {V A : Type 0} (K : VolumeKeeper V) (apps : ℕ) (volume : V) (side : AppSide A) (one : BegunCell V A) (app n : ℕ) (id storage : TableId) → app ≡ n → id ≡ storage
    → IsBegun app (origin_over K id apps volume app side) one → IsBegun n (origin_over K storage apps volume n side) one
begun_at K apps volume side one app n id storage at is begun =
    subst (λ (i : ℕ). IsBegun i (origin_over K storage apps volume i side) one) at (subst (λ (s : TableId). IsBegun app (origin_over K s apps volume app side) one) is begun)

-- what holds wherever a result is Ok holds by what follows from it
pub on_ok : {X E : Type 0} (r : Result X E) (P Q : Type 0) → (P → Q) → OnOk r P → OnOk r Q
on_ok (Ok x) P Q step is = step is
on_ok (Err e) P Q step is = tt

-- a list without an element is empty
pub is_empty : {X : Type 0} (xs : List X) → length xs ≡ 0 → xs ≡ []
is_empty [] none = refl
is_empty (x ∷ xs) none = absurd (omega (arith, none))

-- ---- the cells that have begun

module _ {V A : Type 0} (K : VolumeKeeper V) (storage : TableId) (apps : ℕ) (volume : V) where
  abbrev Begun : ℕ → List (AppSide A) → List (BegunCell V A) → Type 0
  Begun k sides begun = AreBegun k (origins_over K storage apps volume k sides) begun

  -- there is one for each application
  pub begun_count : (k : ℕ) (sides : List (AppSide A)) (begun : List (BegunCell V A)) → Begun k sides begun → length begun ≡ length sides
  begun_count k [] [] are = refl
  begun_count k [] (b ∷ begun) are = absurd are
  begun_count k (s ∷ sides) [] are = absurd are
  begun_count k (s ∷ sides) (b ∷ begun) are = ap suc (begun_count (k + 1) sides begun are.1)

  -- one more
  pub begun_more : (k n : ℕ) (sides : List (AppSide A)) (begun : List (BegunCell V A)) (side : AppSide A) (one : BegunCell V A) → k + length begun ≡ n → Begun k sides begun
      → IsBegun n (origin_over K storage apps volume n side) one → Begun k (sides ++ side ∷ []) (begun ++ one ∷ [])
  begun_more k n [] [] side one at are is = (subst (λ (i : ℕ). IsBegun i (origin_over K storage apps volume i side) one) (let e : n ≡ k = omega (arith, at) in e) is, tt)
  begun_more k n [] (b ∷ begun) side one at are is = absurd are
  begun_more k n (s ∷ sides) [] side one at are is = absurd are
  begun_more k n (s ∷ sides) (b ∷ begun) side one at are is = (are.0, begun_more (k + 1) n sides begun side one (omega (arith, at)) are.1 is)

  -- the last of them, and those before it
  pub record EndsWith (k n : ℕ) (begun : List (BegunCell V A)) (one : BegunCell V A) : Type 0 where
    pub front : List (AppSide A)
    pub side : AppSide A
    pub are : Begun k front begun
    pub last : IsBegun n (origin_over K storage apps volume n side) one

  pub begun_last : (k n : ℕ) (sides : List (AppSide A)) (begun : List (BegunCell V A)) (one : BegunCell V A) → k + length begun ≡ n → Begun k sides (begun ++ one ∷ []) → EndsWith k n begun one
  begun_last k n [] [] one at are = absurd are
  begun_last k n [] (b ∷ begun) one at are = absurd are
  begun_last k n (s ∷ sides) [] one at are = record {
    front = [];
    side = s;
    are = tt;
    last = subst (λ (i : ℕ). IsBegun i (origin_over K storage apps volume i s) one) (let e : k ≡ n = omega (arith, at) in e) are.0;
  }
  begun_last k n (s ∷ sides) (b ∷ begun) one at are =
      let more = begun_last (k + 1) n sides begun one (omega (arith, at)) are.1 in
      record { front = s ∷ more.front; side = more.side; are = (are.0, more.are); last = more.last }

-- one application of those that have begun is undone
module _ {V A : Type 0} (K : VolumeKeeper V) (behaviour : Behaviour A) (storage : TableId) (apps : ℕ) (volume : V) (sides : List (AppSide A)) (all items : List (BegunCell V A)) (one : BegunCell V A)
    (items_are : all ≡ items ++ one ∷ []) (are : AreBegun 0 (origins_over K storage apps volume 0 sides) all) where
  pub last : EndsWith K storage apps volume 0 (length items) items one
  last = begun_last K storage apps volume 0 (length items) sides items one (omega arith)
      (subst (λ (bs : List (BegunCell V A)). AreBegun 0 (origins_over K storage apps volume 0 sides) bs) items_are are)

  pub one_less : length all ≡ length items + 1
  one_less = ap (λ (bs : List (BegunCell V A)). length bs) items_are ∙ length_push items one

  module _ (h : HostedView V A) (keeps : KeepsHosted K behaviour h) (parts : parts_for h.log 0 h.misses ≡ (known one.1).own) (trail : IsPrefix (known one.1).trail (trail_with h.origin h.log))
      (v : SeatView StoragePart (StorageEntry V)) where
    did_nothing : (h.origin ≡ origin_over K storage apps volume (length items) last.side) × (h.log ≡ [])
    did_nothing = closed_fresh (length items) (origin_over K storage apps volume (length items) last.side) one h last.last keeps.eight keeps.clients parts trail

    pub own_cell : (id : TableId) → id ≡ h.origin.storage → id ≡ storage
    own_cell id is = is ∙ ap (λ (o : Origin V A). o.storage) did_nothing.0

    pub own_back : IsSeatFor h.origin.machine.index v → first_of v.trail ≡ h.origin.opened
        → (IsMarked K h.origin.opened → part_at v.own 0 ≡ part_of (machine_by behaviour h.origin.machine h.log)) → ComesBack K apps volume (length items) 1 v
    own_back seat opened part =
        unlogged_back K behaviour storage apps (length items) volume last.side h.origin h.log v did_nothing.0 did_nothing.1 last.last.index seat opened part

-- ---- their passes

-- a place of two lists is one of the first or one of the second
get_joined : {X : Type 0} (xs ys : List X) (i : ℕ) (x : X) → slice_get (xs ++ ys) i ≡ Some x
    → ((i < length xs) × (slice_get xs i ≡ Some x)) ⊎ ((j : ℕ) × (i ≡ length xs + j) × (slice_get ys j ≡ Some x))
get_joined [] ys i x here = inr (i, (let e : i ≡ 0 + i = omega arith in e), here)
get_joined (y ∷ xs) ys zero x here = inl (omega arith, here)
get_joined (y ∷ xs) ys (suc i) x here = ⊎_elim
    (λ (h : (i < length xs) × (slice_get xs i ≡ Some x)). inl ((let lt = h.0 in omega (arith, lt)), h.1))
    (λ (h : (j : ℕ) × (i ≡ length xs + j) × (slice_get ys j ≡ Some x)). inr (h.0, (let e = h.1 in omega (arith, e)), h.2))
    (get_joined xs ys i x here)

module _ {V A : Type 0} where
  abbrev pub cells_in : List (BegunCell V A) → List (TurnCell (HostedView V A) ClientPart (HostedEvent V A))
  cells_in begun = map (λ (b : BegunCell V A). b.0) begun

  abbrev pub ids_in : List (BegunCell V A) → List TableId
  ids_in begun = map (λ (b : BegunCell V A). cell_id b.0) begun

  -- the next cell, and the passes of one more
  pub record DealsNext (k n : ℕ) (origins : List (Origin V A)) (front : List (BegunCell V A)) (one : BegunCell V A) : Type 0 where
    pub origin : Origin V A
    pub begun : IsBegun n origin one
    pub passes : all_fresh k (ids_in (front ++ one ∷ [])) origins ≡ all_fresh k (ids_in front) origins ++ fresh_passes (cell_id one.0) origin n 0 8

  pub deals_next : (k n : ℕ) (origins : List (Origin V A)) (front : List (BegunCell V A)) (one : BegunCell V A) (rest : List (BegunCell V A)) → k + length front ≡ n
      → AreBegun k origins (front ++ one ∷ rest) → DealsNext k n origins front one
  deals_next k n [] [] one rest at are = absurd are
  deals_next k n [] (b ∷ front) one rest at are = absurd are
  deals_next k n (o ∷ origins) [] one rest at are =
      let here : k ≡ n = omega (arith, at) in
      record {
        origin = o;
        begun = subst (λ (i : ℕ). IsBegun i o one) here are.0;
        passes = append-nil (fresh_passes (cell_id one.0) o k 0 8) ∙ ap (λ (i : ℕ). fresh_passes (cell_id one.0) o i 0 8) here;
      }
  deals_next k n (o ∷ origins) (b ∷ front) one rest at are =
      let more = deals_next (k + 1) n origins front one rest (omega (arith, at)) are.1 in
      record {
        origin = more.origin;
        begun = more.begun;
        passes =
            ap (λ (ps : List (PassView V A)). fresh_passes (cell_id b.0) o k 0 8 ++ ps) more.passes
            ∙ sym (append_assoc (fresh_passes (cell_id b.0) o k 0 8) (all_fresh (k + 1) (ids_in front) origins) (fresh_passes (cell_id one.0) more.origin n 0 8));
      }

  pub deals_here : (n : ℕ) (origins : List (Origin V A)) (all front rest more : List (BegunCell V A)) (one : BegunCell V A) → front ++ rest ≡ all → rest ≡ one ∷ more → n ≡ length front
      → AreBegun 0 origins all → DealsNext 0 n origins front one
  deals_here n origins all front rest more one split first count are =
      deals_next 0 n origins front one more (omega (arith, count))
      (subst (λ (bs : List (BegunCell V A)). AreBegun 0 origins bs) (sym split ∙ ap (λ (bs : List (BegunCell V A)). front ++ bs) first) are)

  -- each cell is that of its place
  pub cells_begun : (k i n : ℕ) (origins : List (Origin V A)) (begun : List (BegunCell V A)) (c : TurnCell (HostedView V A) ClientPart (HostedEvent V A)) → k + i ≡ n → AreBegun k origins begun
      → slice_get (cells_in begun) i ≡ Some c → IsAppCell n c
  cells_begun k i n [] [] c at are here = absurd (let e : None ≡ Some c = here in cc)
  cells_begun k i n [] (b ∷ begun) c at are here = absurd are
  cells_begun k i n (o ∷ origins) [] c at are here = absurd are
  cells_begun k zero n (o ∷ origins) (b ∷ begun) c at are here =
      let same : b.0 ≡ c = let e : Some b.0 ≡ Some c = here in cc in
      subst (λ (j : ℕ). IsAppCell j c) (let e : k ≡ n = omega (arith, at) in e) (subst (λ (d : TurnCell (HostedView V A) ClientPart (HostedEvent V A)). IsAppCell k d) same are.0.cell)
  cells_begun k (suc i) n (o ∷ origins) (b ∷ begun) c at are here = cells_begun (k + 1) i n origins begun c (omega (arith, at)) are.1 here

  -- the pass at a place
  fresh_at : (cell : TableId) (origin : Origin V A) (app c count i n : ℕ) (p : PassView V A) → c + i ≡ n → slice_get (fresh_passes cell origin app c count) i ≡ Some p
      → p ≡ fresh_pass cell origin app n
  fresh_at cell origin app c zero i n p at here = absurd (let e : None ≡ Some p = here in cc)
  fresh_at cell origin app c (suc count) zero n p at here =
      let same : fresh_pass cell origin app c ≡ p = let e : Some (fresh_pass cell origin app c) ≡ Some p = here in cc in
      sym same ∙ ap (λ (j : ℕ). fresh_pass cell origin app j) (let e : c ≡ n = omega (arith, at) in e)
  fresh_at cell origin app c (suc count) (suc i) n p at here = fresh_at cell origin app (c + 1) count i n p (omega (arith, at)) here

module _ {V A : Type 0} (K : VolumeKeeper V) (storage : TableId) (apps : ℕ) (volume : V) where
  abbrev origins : ℕ → List (AppSide A) → List (Origin V A)
  origins k sides = origins_over K storage apps volume k sides

  pub passes_count : (k : ℕ) (sides : List (AppSide A)) (begun : List (BegunCell V A)) → AreBegun k (origins k sides) begun
      → length (all_fresh k (ids_in begun) (origins k sides)) ≡ 8 * length (ids_in begun)
  passes_count k [] [] are = refl
  passes_count k [] (b ∷ begun) are = absurd are
  passes_count k (s ∷ sides) [] are = absurd are
  passes_count k (s ∷ sides) (b ∷ begun) are =
      let more = passes_count (k + 1) sides begun are.1 in
      let sum = length-append (fresh_passes (cell_id b.0) (origin_over K storage apps volume k s) k 0 8) (all_fresh (k + 1) (ids_in begun) (origins (k + 1) sides)) in
      omega (arith, more, sum)

  -- a pass is of a cell, and its place is by the cell and then by the client
  record IsDealt (k i : ℕ) (ids : List TableId) (p : PassView V A) : Type 0 where
    pub place : ℕ
    pub app : p.app ≡ k + place
    pub cell : slice_get ids place ≡ Some p.cell
    pub client : p.client < 8
    pub at : i ≡ 8 * place + p.client
    pub origin : Origin V A
    pub origin_is : origin_in p.seat.trail ≡ Some origin
    pub storage_is : origin.storage ≡ storage
    pub index : origin.machine.index ≡ p.app

  dealt_at : (k i : ℕ) (sides : List (AppSide A)) (begun : List (BegunCell V A)) (p : PassView V A) → AreBegun k (origins k sides) begun
      → slice_get (all_fresh k (ids_in begun) (origins k sides)) i ≡ Some p → IsDealt k i (ids_in begun) p
  dealt_at k i [] [] p are here = absurd (let e : None ≡ Some p = here in cc)
  dealt_at k i [] (b ∷ begun) p are here = absurd are
  dealt_at k i (s ∷ sides) [] p are here = absurd are
  dealt_at k i (s ∷ sides) (b ∷ begun) p are here =
      let o : Origin V A = origin_over K storage apps volume k s in
      ⊎_elim
      (λ (h : (i < 8) × (slice_get (fresh_passes (cell_id b.0) o k 0 8) i ≡ Some p)).
      let lt = h.0 in
      subst (λ (q : PassView V A). IsDealt k i (ids_in (b ∷ begun)) q) (sym (fresh_at (cell_id b.0) o k 0 8 i i p (omega arith) h.1)) (record {
        place = 0;
        app = omega arith;
        cell = refl;
        client = lt;
        at = omega arith;
        origin = o;
        origin_is = refl;
        storage_is = refl;
        index = are.0.index;
      }))
      (λ (h : (j : ℕ) × (i ≡ 8 + j) × (slice_get (all_fresh (k + 1) (ids_in begun) (origins (k + 1) sides)) j ≡ Some p)).
      let more = dealt_at (k + 1) h.0 sides begun p are.1 h.2 in
      let e = h.1 in let a = more.app in let f = more.at in
      record {
        place = suc more.place;
        app = omega (arith, a);
        cell = more.cell;
        client = more.client;
        at = omega (arith, e, f);
        origin = more.origin;
        origin_is = more.origin_is;
        storage_is = more.storage_is;
        index = more.index;
      })
      (get_joined (fresh_passes (cell_id b.0) o k 0 8) (all_fresh (k + 1) (ids_in begun) (origins (k + 1) sides)) i p here)

  -- they are all passes of the runtime
  pub all_dealt : (sides : List (AppSide A)) (begun : List (BegunCell V A)) → AreBegun 0 (origins 0 sides) begun
      → ArePasses (let places : Places = record { cells = ids_in begun; storage = storage } in places) (all_fresh 0 (ids_in begun) (origins 0 sides))
  all_dealt sides begun are = record {
    all = passes_count 0 sides begun are;
    each = λ i p here.
        let d = dealt_at 0 i sides begun p are here in
        let place : d.place ≡ p.app = let a = d.app in omega (arith, a) in (
          record {
            cell = subst (λ (j : ℕ). slice_get (ids_in begun) j ≡ Some p.cell) place d.cell;
            origin = d.origin;
            origin_is = d.origin_is;
            storage = d.storage_is;
            index = d.index;
          },
          d.client,
          let at = d.at in omega (arith, at, place),
        );
  }

-- ---- the whole

module _ {V A : Type 0} (K : VolumeKeeper V) (hosts : List (Host A)) (seed : List ℕ) (sides : List (AppSide A)) (fresh : AreFresh seed 0 hosts sides) (volume : V)
    (storage : TurnCell (StorageView V) StoragePart (StorageEntry V)) (begun : List (BegunCell V A)) (are : AreBegun 0 (origins_over K (cell_id storage) (length sides) volume 0 sides) begun)
    (cells : List (TurnCell (HostedView V A) ClientPart (HostedEvent V A))) (cells_are : cells ≡ cells_in begun) where
  ids_are : map (λ c. cell_id c) cells ≡ ids_in begun
  ids_are = ap (λ (cs : List (TurnCell (HostedView V A) ClientPart (HostedEvent V A))). map (λ c. cell_id c) cs) cells_are ∙ ids_joined begun where
    ids_joined : (bs : List (BegunCell V A)) → map (λ (c : TurnCell (HostedView V A) ClientPart (HostedEvent V A)). cell_id c) (cells_in bs) ≡ ids_in bs
    ids_joined [] = refl
    ids_joined (b ∷ bs) = ap (λ (ids : List TableId). cell_id b.0 ∷ ids) (ids_joined bs)

  pub cells_count : length cells ≡ length sides
  cells_count =
      ap (λ (cs : List (TurnCell (HostedView V A) ClientPart (HostedEvent V A))). length cs) cells_are
      ∙ length-map begun (λ (b : BegunCell V A). b.0) ∙ begun_count K (cell_id storage) (length sides) volume 0 sides begun are

  -- the runtime begins over the volume
  pub begins_over : (passes : List (PassView V A)) → passes ≡ all_fresh 0 (ids_in begun) (origins_over K (cell_id storage) (length sides) volume 0 sides)
      → BeginsOver K hosts seed (places_of cells storage) passes volume
  begins_over passes dealt =
      let count : length sides ≡ length hosts = sides_count seed 0 hosts sides fresh in
      record {
        cells = length-map cells (λ c. cell_id c) ∙ cells_count ∙ count;
        passes_are =
            dealt
            ∙ ap (λ (ids : List TableId). all_fresh 0 ids (origins_over K (cell_id storage) (length sides) volume 0 sides)) (sym ids_are)
            ∙ ap (λ n. all_fresh 0 (map (λ c. cell_id c) cells) (origins_over K (cell_id storage) n volume 0 sides)) count
            ∙ ap (λ (os : List (Origin V A)). all_fresh 0 (map (λ c. cell_id c) cells) os) (origins_begun K (cell_id storage) (length hosts) volume seed 0 hosts sides fresh);
        all = subst (λ (ps : List (PassView V A)). ArePasses (places_of cells storage) ps) (sym dealt)
            (subst (λ (ids : List TableId). ArePasses (let places : Places = record { cells = ids; storage = cell_id storage } in places)
            (all_fresh 0 (ids_in begun) (origins_over K (cell_id storage) (length sides) volume 0 sides))) (sym ids_are)
            (all_dealt K (cell_id storage) (length sides) volume sides begun are));
      }
