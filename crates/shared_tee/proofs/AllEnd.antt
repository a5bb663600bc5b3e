-- The cells of all applications end, one behind another, and their seats of the storage's cell are joined.
use Rattle.app_api.specs.Behaviours.{Behaviour}
use Rattle.std.proofs.Common.{◌≡◌, ◌<◌, ◌≤◌, ◌+◌, ◌-◌, ◌*◌, ◌++◌, ℕ, zero, suc, true, false, List, [], ◌∷◌, Option, Some, leb, length, map, min, take, drop}
use Rattle.std.proofs.Common.{refl, sym, subst, ◌∙◌, ap, ⊎_elim, arith, length-append, length-drop}
use Rattle.std.proofs.Math.Seq.{take-length}
use Rattle.std.proofs.lemmas.Bool.Decides.{leb_tells}
use Rattle.std.proofs.lemmas.List.{length-map, map-append}
use Rattle.std.proofs.lemmas.Option.{slice_get-map, slice_get_within}
use Rattle.std.specs.Prelude.{option_map, slice_get}
use mathlib.Core.List.{IsPrefix}
use Rattle.turn_cell.specs.View.{Adjoin, view_after_join}
use Rattle.turn_cell.specs.Words.{TableId}
use Rattle.turn_cell.specs.declared.view.SeatView.{SeatView}
use Rattle.turn_cell.specs.declared.view.Turn.TheVariants.{Free}
use Rattle.store_api.specs.Volumes.{VolumeKeeper}
use Rattle.alone.specs.Logs.{KeptLog, Logged, machine_by}
use Rattle.shared_parts.proofs.HostedLemmas.{first_prefix, lost_prefix, some_prefix}
use Rattle.shared_parts.specs.HostedApps.{HostedView, IsSeatFor, Origin, tells_loss}
use Rattle.shared_parts.specs.InStep.{StoragePart, part_of}
use Rattle.shared_parts.specs.StorageParts.{IsMarked, StorageEntry, first_of, is_lost_at, no_part, part_at}
use Rattle.shared_tee.proofs.CellEnds.{single}
use Rattle.shared_tee.proofs.JoinLemmas.{adjoins, behind_front, front_taken, get_before, get_last, in_front, left_further, own_joined, within_front}
use Rattle.shared_tee.specs.Ending.{AreNext, ArePasses, EndsFor, HaveEnded, parts_ended}
use Rattle.shared_tee.specs.Passes.{IsPassOf, PassView, Places}

-- where a list is long enough, there is an element
some_there : {X : Type 0} (i : ℕ) (xs : List X) → i < length xs → (x : X) × (slice_get xs i ≡ Some x)
some_there i [] lt = absurd (omega (arith, lt))
some_there zero (x ∷ xs) lt = (x, refl)
some_there (suc i) (x ∷ xs) lt = some_there i xs (omega (arith, lt))

-- the parts of one application more
parts_joined : {V A : Type 0} (behaviour : Behaviour A) (ends : List (HostedView V A)) (h : HostedView V A)
    → parts_ended behaviour (ends ++ h ∷ []) ≡ parts_ended behaviour ends ++ part_of (machine_by behaviour h.origin.machine h.log) ∷ []
parts_joined behaviour [] h = refl
parts_joined behaviour (g ∷ ends) h = ap (λ (ps : List StoragePart). part_of (machine_by behaviour g.origin.machine g.log) ∷ ps) (parts_joined behaviour ends h)

-- ---- the passes of the runtime

module _ {V A : Type 0} (places : Places) (passes : List (PassView V A)) (are : ArePasses places passes) where
  -- those of the application at a place
  pub app_is : (app i : ℕ) (p : PassView V A) → i < 8 → slice_get passes (8 * app + i) ≡ Some p → (p.app ≡ app) × (p.client ≡ i)
  app_is app i p lt there =
      let t = are.each (8 * app + i) p there in
      let client : p.client < 8 = t.1 in
      let at : 8 * app + i ≡ 8 * p.app + p.client = t.2 in
      (omega (arith, lt, client, at), omega (arith, lt, client, at))

  pub next_passes : (app : ℕ) (cell : TableId) (rest : List (PassView V A)) → rest ≡ drop (8 * app) passes → slice_get places.cells app ≡ Some cell → AreNext cell rest
  next_passes app cell rest is there = λ i lt.
      let within : app < length places.cells = slice_get_within places.cells app cell there in
      let all = are.all in
      let q = some_there (8 * app + i) passes (omega (arith, lt, within, all)) in
      let who = app_is app i q.0 lt q.1 in
      let named : Some q.0.cell ≡ Some cell = sym (are.each (8 * app + i) q.0 q.1).0.cell ∙ ap (λ (k : ℕ). slice_get places.cells k) who.0 ∙ there in
      (q.0, ap (λ (ps : List (PassView V A)). slice_get ps i) is ∙ behind_front (8 * app) i passes ∙ q.1, cc (named), who.1)

module _ {V A : Type 0} (K : VolumeKeeper V) (behaviour : Behaviour A) where
  -- the application of a place ended, and gave its log and its seat of the storage's cell
  pub record Closes (passes : List (PassView V A)) (app : ℕ) (h : HostedView V A) (log : KeptLog) (u : SeatView StoragePart (StorageEntry V)) : Type 0 where
    pub each : (i : ℕ) (p : PassView V A) → i < 8 → slice_get (drop (8 * app) passes) i ≡ Some p → EndsFor K behaviour h.origin.opened p h
    pub log_is : log.entries ≡ h.log
    pub seat : IsSeatFor h.origin.machine.index u
    pub opened : first_of u.trail ≡ h.origin.opened
    pub told : tells_loss h.log ≡ true → is_lost_at u.trail ≡ true
    pub part : IsMarked K h.origin.opened → part_at u.own 0 ≡ part_of (machine_by behaviour h.origin.machine h.log)

-- so it does, where its passes were the first of those that were left
pub closes_next : {V A : Type 0} (K : VolumeKeeper V) (behaviour : Behaviour A) (all left : List (PassView V A)) (app : ℕ) → left ≡ drop (8 * app) all
    → (h : HostedView V A) (log : KeptLog) (u : SeatView StoragePart (StorageEntry V))
    → ((i : ℕ) (p : PassView V A) → i < 8 → slice_get left i ≡ Some p → EndsFor K behaviour h.origin.opened p h)
    → log.entries ≡ h.log → IsSeatFor h.origin.machine.index u → first_of u.trail ≡ h.origin.opened → (tells_loss h.log ≡ true → is_lost_at u.trail ≡ true)
    → (IsMarked K h.origin.opened → part_at u.own 0 ≡ part_of (machine_by behaviour h.origin.machine h.log)) → Closes K behaviour all app h log u
closes_next {V} {A} K behaviour all left app left_are h log u each log_is seat opened told part = record {
  each = λ i p lt there. each i p lt (ap (λ (ps : List (PassView V A)). slice_get ps i) left_are ∙ there);
  log_is = log_is;
  seat = seat;
  opened = opened;
  told = told;
  part = part;
}

module _ {V A : Type 0} (K : VolumeKeeper V) (behaviour : Behaviour A) (places : Places) (passes : List (PassView V A)) (are : ArePasses places passes)
    (app : ℕ) (within : app < length places.cells) (h : HostedView V A) (log : KeptLog) (u : SeatView StoragePart (StorageEntry V)) (closes : Closes K behaviour passes app h log u) where
  -- its first pass
  abbrev first_pass : (p : PassView V A) × (slice_get passes (8 * app + 0) ≡ Some p)
  first_pass = let all = are.all in some_there (8 * app + 0) passes (omega (arith, within, all))

  abbrev first_ends : EndsFor K behaviour h.origin.opened first_pass.0 h
  first_ends = closes.each 0 first_pass.0 (omega arith) (behind_front (8 * app) 0 passes ∙ first_pass.1)

  abbrev first_of_runtime : IsPassOf places first_pass.0
  first_of_runtime = (are.each (8 * app + 0) first_pass.0 first_pass.1).0

  origin_is : first_of_runtime.origin ≡ h.origin
  origin_is = let e : Some first_of_runtime.origin ≡ Some h.origin = sym first_of_runtime.origin_is ∙ first_ends.origin in cc (e)

  -- its origin names the storage's cell and its place
  pub storage_is : h.origin.storage ≡ places.storage
  storage_is = ap (λ (o : Origin V A). o.storage) (sym origin_is) ∙ first_of_runtime.storage

  pub index_is : h.origin.machine.index ≡ app
  index_is = ap (λ (o : Origin V A). o.machine.index) (sym origin_is) ∙ first_of_runtime.index ∙ (app_is places passes are app 0 first_pass.0 (omega arith) first_pass.1).0

  pub place_is : u.first ≡ app
  place_is = closes.seat.place ∙ index_is

  -- where the mark is set, its seat has the part of the machine to which the log led
  own_is : IsMarked K (first_of u.trail) → u.own ≡ part_of (machine_by behaviour h.origin.machine h.log) ∷ []
  own_is marked =
      single no_part u.own closes.seat.one
      ∙ ap (λ (x : StoragePart). x ∷ []) (closes.part (subst (λ (e : StorageEntry V). IsMarked K e) closes.opened marked))

  -- its passes, among those behind which there are so many
  ends_here : (opened : StorageEntry V) → h.origin.opened ≡ opened → (i : ℕ) (p : PassView V A) → 8 * app ≤ i → i < 8 * (app + 1) → slice_get passes i ≡ Some p
      → (p.app ≡ app) × EndsFor K behaviour opened p h
  ends_here opened same i p low high there =
      let off : 8 * app + (i - 8 * app) ≡ i = omega (arith, low) in
      let at : slice_get passes (8 * app + (i - 8 * app)) ≡ Some p = ap (λ (k : ℕ). slice_get passes k) off ∙ there in
      let few : i - 8 * app < 8 = omega (arith, low, high) in (
        (app_is places passes are app (i - 8 * app) p few at).0,
        subst (λ (e : StorageEntry V). EndsFor K behaviour e p h) same (closes.each (i - 8 * app) p few (behind_front (8 * app) (i - 8 * app) passes ∙ at)),
      )

  -- the first application ended
  pub ended_first : app ≡ 0 → (all : List KeptLog) → all ≡ log ∷ [] → HaveEnded K behaviour (take (8 * (app + 1)) passes) (h ∷ []) all u
  ended_first zero_is all is =
      let none : 8 * app ≡ 0 = omega (arith, zero_is) in
      record {
        logs_are = ap (λ (l : List Logged). l ∷ []) (sym closes.log_is) ∙ ap (λ (ls : List KeptLog). map (λ (l : KeptLog). l.entries) ls) (sym is);
        each = λ i p there.
            let t = within_front (8 * (app + 1)) i p passes there in
            let e = ends_here (first_of u.trail) (sym closes.opened) i p (omega (arith, none)) t.0 t.1 in
            (h, ap (λ (k : ℕ). slice_get (h ∷ []) k) (e.0 ∙ zero_is), e.1);
        free = closes.seat.free;
        first = place_is ∙ zero_is;
        size = closes.seat.one;
        began = closes.seat.began;
        told = λ i g there tells.
            let lt : i < 1 = slice_get_within (h ∷ []) i g there in
            let at : i ≡ 0 = omega (arith, lt) in
            let is_h : h ≡ g = let e : Some h ≡ Some g = ap (λ (k : ℕ). slice_get (h ∷ []) k) (sym at) ∙ there in cc (e) in
            closes.told (subst (λ (x : HostedView V A). tells_loss x.log ≡ true) (sym is_h) tells);
        parts = own_is;
      }

  -- one more ended behind so many
  module _ (ends : List (HostedView V A)) (count : length ends ≡ app) (logs : List KeptLog) (v : SeatView StoragePart (StorageEntry V))
      (was : HaveEnded K behaviour (take (8 * app) passes) ends logs v) where
    pub adjoins_more : Adjoin v u
    adjoins_more = adjoins app v u was.first (was.size ∙ count) place_is

    module _ (w : SeatView StoragePart (StorageEntry V)) (free : w.turn ≡ Free) (joined : w ≡ view_after_join v u) (first : w.first ≡ min v.first u.first)
        (own_trail : IsPrefix v.trail w.trail) (other_trail : IsPrefix u.trail w.trail) where
      own_more : w.own ≡ v.own ++ u.own
      own_more = own_joined app v u was.first (was.size ∙ count) place_is w joined

      opened_before : first_of v.trail ≡ first_of w.trail
      opened_before = sym (first_prefix v.trail w.trail was.began own_trail)

      opened_here : first_of u.trail ≡ first_of w.trail
      opened_here = sym (first_prefix u.trail w.trail closes.seat.began other_trail)

      abbrev Ended : (i : ℕ) (p : PassView V A) → Type 0
      Ended i p = (g : HostedView V A) × (slice_get (ends ++ h ∷ []) p.app ≡ Some g) × EndsFor K behaviour (first_of w.trail) p g

      each_more : (i : ℕ) (p : PassView V A) → i < 8 * (app + 1) → slice_get passes i ≡ Some p → Ended i p
      each_more i p high there = ⊎_elim
          (λ (t : (leb (8 * app) i ≡ true) × (8 * app ≤ i)).
          let e = ends_here (first_of w.trail) (sym closes.opened ∙ opened_here) i p t.1 high there in
          let r : Ended i p = (h, ap (λ (k : ℕ). slice_get (ends ++ h ∷ []) k) e.0 ∙ get_last app ends h (sym count), e.1) in r)
          (λ (t : (leb (8 * app) i ≡ false) × (i < 8 * app)).
          let b = was.each i p (in_front (8 * app) i passes t.1 ∙ there) in
          let lt : p.app < length ends = slice_get_within ends p.app b.0 b.1 in
          let r : Ended i p = (b.0, get_before p.app ends h lt ∙ b.1, subst (λ (e : StorageEntry V). EndsFor K behaviour e p b.0) opened_before b.2) in r)
          (leb_tells (8 * app) i)

      told_more : (i : ℕ) (g : HostedView V A) → slice_get (ends ++ h ∷ []) i ≡ Some g → tells_loss g.log ≡ true → is_lost_at w.trail ≡ true
      told_more i g there tells = ⊎_elim
          (λ (t : (leb (length ends) i ≡ true) × (length ends ≤ i)).
          let le : length ends ≤ i = t.1 in
          let lt : i < length (ends ++ h ∷ []) = slice_get_within (ends ++ h ∷ []) i g there in
          let size = length-append ends (h ∷ []) in
          let last : i ≡ length ends = omega (arith, le, lt, size) in
          let is_h : h ≡ g = let e : Some h ≡ Some g = sym (get_last i ends h last) ∙ there in cc (e) in
          lost_prefix u.trail w.trail other_trail (closes.told (subst (λ (x : HostedView V A). tells_loss x.log ≡ true) (sym is_h) tells)))
          (λ (t : (leb (length ends) i ≡ false) × (i < length ends)).
          lost_prefix v.trail w.trail own_trail (was.told i g (sym (get_before i ends h t.1) ∙ there) tells))
          (leb_tells (length ends) i)

      parts_more : IsMarked K (first_of w.trail) → w.own ≡ parts_ended behaviour (ends ++ h ∷ [])
      parts_more marked =
          own_more
          ∙ ap (λ (ps : List StoragePart). ps ++ u.own) (was.parts (subst (λ (e : StorageEntry V). IsMarked K e) (sym opened_before) marked))
          ∙ ap (λ (ps : List StoragePart). parts_ended behaviour ends ++ ps) (own_is (subst (λ (e : StorageEntry V). IsMarked K e) (sym opened_here) marked))
          ∙ sym (parts_joined behaviour ends h)

      pub ended_more : (all : List KeptLog) → all ≡ logs ++ log ∷ [] → HaveEnded K behaviour (take (8 * (app + 1)) passes) (ends ++ h ∷ []) all w
      ended_more all is = record {
        logs_are = map-append (λ (g : HostedView V A). g.log) ends (h ∷ [])
            ∙ ap (λ (ls : List (List Logged)). ls ++ h.log ∷ []) was.logs_are
            ∙ ap (λ (l : List Logged). map (λ (x : KeptLog). x.entries) logs ++ l ∷ []) (sym closes.log_is)
            ∙ sym (map-append (λ (x : KeptLog). x.entries) logs (log ∷ []))
            ∙ ap (λ (ls : List KeptLog). map (λ (x : KeptLog). x.entries) ls) (sym is);
        each = λ i p there. let t = within_front (8 * (app + 1)) i p passes there in each_more i p t.0 t.1;
        free = free;
        first = let low = was.first in omega (arith, first, low);
        size =
            let sum = ap (λ (ps : List StoragePart). length ps) own_more ∙ length-append v.own u.own in
            let more = length-append ends (h ∷ []) in
            let before = was.size in
            let one = closes.seat.one in
            omega (arith, sum, more, before, one);
        began = some_prefix v.trail w.trail was.began own_trail;
        told = told_more;
        parts = parts_more;
      }

-- ---- one cell after another

-- so many of the cells ended; these cells and passes are left
pub record HasClosed {C V A : Type 0} (K : VolumeKeeper V) (behaviour : Behaviour A) (all_cells cells : List C) (all passes : List (PassView V A)) (logs : List KeptLog)
    (v : SeatView StoragePart (StorageEntry V)) : Type 0 where
  pub ends : List (HostedView V A)
  pub few : length ends ≤ length all_cells
  pub cells_are : cells ≡ drop (length ends) all_cells
  pub passes_are : passes ≡ drop (8 * length ends) all
  pub ended : HaveEnded K behaviour (take (8 * length ends) all) ends logs v

module _ {C V A : Type 0} (K : VolumeKeeper V) (behaviour : Behaviour A) (id : C → TableId) (all_cells : List C) (storage : TableId) (all : List (PassView V A))
    (are : ArePasses (let p : Places = record { cells = map id all_cells; storage = storage } in p) all) where
  abbrev places : Places
  places = record { cells = map id all_cells; storage = storage }

  within_cells : (n : ℕ) (cell : C) → slice_get all_cells n ≡ Some cell → n < length places.cells
  within_cells n cell there =
      let lt = slice_get_within all_cells n cell there in
      let same = length-map all_cells id in
      omega (arith, lt, same)

  -- the passes that are left begin with those of the next cell
  pub next_of : (n : ℕ) (cell : C) (rest : List (PassView V A)) → slice_get all_cells n ≡ Some cell → rest ≡ drop (8 * n) all → AreNext (id cell) rest
  next_of n cell rest there is = next_passes places all are n (id cell) rest is (slice_get-map id all_cells n ∙ ap (λ (c : Option C). option_map id c) there)

  -- the first cell ended
  module _ (cell : C) (left : List C) (front : all_cells ≡ cell ∷ left) where
    pub first_there : slice_get all_cells 0 ≡ Some cell
    first_there = ap (λ (cs : List C). slice_get cs 0) front

    module _ (h : HostedView V A) (log : KeptLog) (u : SeatView StoragePart (StorageEntry V)) (closes : Closes K behaviour all 0 h log u) where
      pub first_storage : h.origin.storage ≡ storage
      first_storage = storage_is K behaviour places all are 0 (within_cells 0 cell first_there) h log u closes

      pub closed_first : (passes rest : List (PassView V A)) → passes ≡ all → rest ≡ drop 8 passes → (none logs : List KeptLog) → none ≡ [] → logs ≡ none ++ log ∷ []
          → HasClosed K behaviour all_cells left all rest logs u
      closed_first passes rest same rest_is none logs none_is logs_are = record {
        ends = h ∷ [];
        few = let n = ap (λ (cs : List C). length cs) front in omega (arith, n);
        cells_are = sym (ap (λ (cs : List C). drop 1 cs) front);
        passes_are = rest_is ∙ ap (λ (ps : List (PassView V A)). drop 8 ps) same;
        ended = ended_first K behaviour places all are 0 (within_cells 0 cell first_there) h log u closes refl logs (logs_are ∙ ap (λ (ls : List KeptLog). ls ++ log ∷ []) none_is);
      }

  -- one more ended
  module _ (cells : List C) (passes : List (PassView V A)) (logs : List KeptLog) (v : SeatView StoragePart (StorageEntry V)) (was : HasClosed K behaviour all_cells cells all passes logs v)
      (cell : C) (left : List C) (front : cells ≡ cell ∷ left) where
    abbrev done : ℕ
    done = length was.ends

    taken : (slice_get all_cells done ≡ Some cell) × (left ≡ drop (done + 1) all_cells)
    taken = front_taken done all_cells left cell (sym front ∙ was.cells_are)

    -- the passes that are left begin with its own
    pub next_left : AreNext (id cell) passes
    next_left = next_of done cell passes taken.0 was.passes_are

    pub cell_there : slice_get all_cells done ≡ Some cell
    cell_there = taken.0

    module _ (h : HostedView V A) (log : KeptLog) (u : SeatView StoragePart (StorageEntry V)) (closes : Closes K behaviour all done h log u) where
      pub next_storage : h.origin.storage ≡ storage
      next_storage = storage_is K behaviour places all are done (within_cells done cell taken.0) h log u closes

      pub next_adjoins : Adjoin v u
      next_adjoins = adjoins_more K behaviour places all are done (within_cells done cell taken.0) h log u closes was.ends refl logs v was.ended

      module _ (w : SeatView StoragePart (StorageEntry V)) (free : w.turn ≡ Free) (joined : w ≡ view_after_join v u) (first : w.first ≡ min v.first u.first)
          (own_trail : IsPrefix v.trail w.trail) (other_trail : IsPrefix u.trail w.trail) where
        pub closed_more : (rest : List (PassView V A)) → rest ≡ drop 8 passes → (now : List KeptLog) → now ≡ logs ++ log ∷ [] → HasClosed K behaviour all_cells left all rest now w
        closed_more rest rest_is now now_is =
            let more : length (was.ends ++ h ∷ []) ≡ done + 1 = length-append was.ends (h ∷ []) in
            let lt = slice_get_within all_cells done cell taken.0 in
            let eight : 8 * done + 8 ≡ 8 * length (was.ends ++ h ∷ []) = omega (arith, more) in
            record {
              ends = was.ends ++ h ∷ [];
              few = omega (arith, more, lt);
              cells_are = taken.1 ∙ ap (λ (n : ℕ). drop n all_cells) (sym more);
              passes_are = left_further 8 (8 * done) passes all rest was.passes_are rest_is ∙ ap (λ (n : ℕ). drop n all) eight;
              ended = subst (λ (n : ℕ). HaveEnded K behaviour (take (8 * n) all) (was.ends ++ h ∷ []) now w) (sym more)
                  (ended_more K behaviour places all are done (within_cells done cell taken.0) h log u closes was.ends refl logs v was.ended w free joined first own_trail other_trail now now_is);
            }

  -- none is left
  pub all_closed : (cells : List C) (passes : List (PassView V A)) (logs : List KeptLog) (v : SeatView StoragePart (StorageEntry V)) → HasClosed K behaviour all_cells cells all passes logs v
      → cells ≡ [] → (ends : List (HostedView V A)) × (length ends ≡ length all_cells) × HaveEnded K behaviour all ends logs v
  all_closed cells passes logs v was none =
      let few = was.few in
      let left : length (drop (length was.ends) all_cells) ≡ 0 = ap (λ (cs : List C). length cs) (sym was.cells_are ∙ none) in
      let size = length-drop (length was.ends) all_cells in
      let same : length was.ends ≡ length all_cells = omega (arith, few, left, size) in
      let many = are.all in
      let ids = length-map all_cells id in
      let whole : 8 * length was.ends ≡ length all = omega (arith, same, many, ids) in
      (was.ends, same, subst (λ (ps : List (PassView V A)). HaveEnded K behaviour ps was.ends logs v) (ap (λ (n : ℕ). take n all) whole ∙ take-length all) was.ended)

  -- there are as many logs as cells that ended, and so there is room for one more
  pub logs_few : (cells : List C) (passes : List (PassView V A)) (logs : List KeptLog) (v : SeatView StoragePart (StorageEntry V)) → HasClosed K behaviour all_cells cells all passes logs v
      → (cell : C) (left : List C) → cells ≡ cell ∷ left → length logs < length all_cells
  logs_few cells passes logs v was cell left front =
      let lt = slice_get_within all_cells (length was.ends) cell (taken cells passes logs v was cell left front).0 in
      let same = ap (λ (ls : List (List Logged)). length ls) was.ended.logs_are in
      let ends = length-map was.ends (λ (g : HostedView V A). g.log) in
      let entries = length-map logs (λ (l : KeptLog). l.entries) in
      omega (arith, lt, same, ends, entries)
