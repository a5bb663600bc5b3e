-- A pass that waited for a cell: it knows more, and is as it was else.
use Rattle.app_api.specs.Behaviours.{Behaviour}
use Rattle.std.proofs.Common.{◌≡◌, ◌<◌, ◌≤◌, ◌+◌, ℕ, List, get_or, length, map, refl, sym, subst, ◌∙◌, ap, arith}
use mathlib.Core.List.{IsPrefix}
use Rattle.turn_cell.specs.Words.{TableId}
use Rattle.turn_cell.specs.View.{ChangesOnlyWithin, segment, taken_parts, taken_trail, view_after_give, with_turn, with_waits}
use Rattle.turn_cell.specs.declared.view.SeatView.{SeatView}
use Rattle.turn_cell.specs.declared.view.Turn.{Turn}
use Rattle.store_api.specs.Volumes.{VolumeKeeper}
use Rattle.shared_parts.specs.HostedApps.{ClientPart, HostedEvent, HostedView, KeepsHosted, missed_by, parts_for, trail_with}
use Rattle.shared_parts.specs.InStep.{StoragePart}
use Rattle.shared_parts.specs.Seating.{LearnsMore}
use Rattle.shared_parts.specs.StorageParts.{StorageEntry}
use Rattle.shared_tee.specs.Passes.{GoesOnBy, IsPass, IsPassOf, MakesNothing, PassView, Places}
use Rattle.shared_tee.proofs.PassLemmas.{GivesBack, Takes, cell_there, gives_parts, gives_trail, goes_then, is_pass_then, look_gives, makes_nothing, of_then, storage_of}

-- ---- the storage's seat

-- the storage was taken, and given back as it was
pub learned : {V : Type 0} (v u w : SeatView StoragePart (StorageEntry V)) (turn : Turn StoragePart (StorageEntry V)) (n : ℕ) (parts : List StoragePart) (trail : List (StorageEntry V))
    → u ≡ with_turn (with_waits v n) turn 0 → segment v.first (length v.own) parts ≡ v.own → IsPrefix v.trail trail → w ≡ view_after_give u parts trail → LearnsMore v w
learned {V} v u w turn n parts trail taken own goes_on given =
    subst (λ (x : SeatView StoragePart (StorageEntry V)). LearnsMore v x)
    (sym (given ∙ ap (λ (x : SeatView StoragePart (StorageEntry V)). view_after_give x parts trail) taken))
    (record { free = refl; first = refl; own = own; original = refl; misses = refl; missed_word = refl; trail = goes_on })

-- ---- the pass

module _ {V A : Type 0} (K : VolumeKeeper V) (behaviour : Behaviour A) (p : PassView V A) (h : HostedView V A) (n : ℕ) where
  -- the pass that tried so often while it waited
  abbrev pub waiting : PassView V A
  waiting = record { app = p.app; client = p.client; calls = p.calls; cell = p.cell; seat = with_waits p.seat n }

  abbrev pub Back : Type 0
  Back = GivesBack K behaviour waiting h h (missed_by h.misses p.client)

  -- it gives the application back as it found it
  pub pause_gives : IsPass K behaviour p → segment p.seat.first (length p.seat.own) (parts_for h.log 0 h.misses) ≡ p.seat.own
      → IsPrefix p.seat.trail (trail_with h.origin h.log) → KeepsHosted K behaviour h → Back
  pause_gives is own goes_on keeps =
      let takes : Takes K behaviour waiting h = record {
        is = record {
          client = is.client;
          free = is.free;
          place = is.place;
          one = is.one;
          origin = is.origin;
          trail = is.trail;
          made = is.made;
          counted = is.counted;
          legal = is.legal;
        };
        own = own;
        goes_on = goes_on;
        eight = keeps.eight;
      } in
      look_gives K behaviour waiting h takes keeps

  module _ (g : Back) (u : SeatView ClientPart (HostedEvent V A)) (turn : Turn ClientPart (HostedEvent V A)) (taken : u ≡ with_turn (with_waits p.seat n) turn 0) where
    pub pause_parts : taken_parts u.turn ≡ parts_for h.log 0 h.misses → ChangesOnlyWithin u.first (length u.own) (taken_parts u.turn) (parts_for h.log 0 h.misses)
    pause_parts found = gives_parts K behaviour waiting h h (missed_by h.misses p.client) g u turn taken found

    pub pause_trail : taken_trail u.turn ≡ trail_with h.origin h.log → IsPrefix (taken_trail u.turn) (trail_with h.origin h.log)
    pause_trail found = gives_trail K behaviour waiting h h (missed_by h.misses p.client) g u found

    module _ (id : TableId) (same_cell : id ≡ p.cell) (w : SeatView ClientPart (HostedEvent V A))
        (given : w ≡ view_after_give u (parts_for h.log 0 h.misses) (trail_with h.origin h.log)) where
      abbrev pub paused : PassView V A
      paused = record { app = p.app; client = p.client; calls = p.calls; cell = id; seat = w }

      -- it made nothing
      pub pause_same : MakesNothing p paused
      pause_same =
          let none = makes_nothing K behaviour waiting h h g id same_cell u w turn taken given refl in
          record { others = record { goes_on = none.others.goes_on; none_own = none.others.none_own }; own = none.own; tries = none.tries }

      -- it is a pass still
      pub is_pass_paused : IsPass K behaviour p → IsPass K behaviour paused
      is_pass_paused was =
          let is = is_pass_then K behaviour waiting h h (missed_by h.misses p.client) g id same_cell u w turn taken given in
          record {
            client = is.client;
            free = is.free;
            place = is.place;
            one = is.one;
            origin = is.origin;
            trail = is.trail;
            made = is.made;
            counted = let before = was.counted in let own = ap (λ (c : ClientPart). c.missed.count) pause_same.own in omega (arith, before, own);
            legal = is.legal;
          }

      -- of the same runtime
      pub of_paused : (places : Places) → IsPassOf places p → IsPassOf places paused
      of_paused places was =
          let of = of_then K behaviour waiting h h (missed_by h.misses p.client) g id same_cell u w turn taken given places
          (record { cell = was.cell; origin = was.origin; origin_is = was.origin_is; storage = was.storage; index = was.index }) in
          record { cell = of.cell; origin = of.origin; origin_is = of.origin_is; storage = of.storage; index = of.index }

      -- and made no call
      pub goes_paused : GoesOnBy 0 p paused
      goes_paused =
          let goes = goes_then K behaviour waiting h h (missed_by h.misses p.client) g id same_cell u w turn taken given in
          record { app = refl; client = refl; cell = same_cell; calls = omega arith; trail = goes.trail }

      -- but tries while it waited
      pub pause_waited : p.seat.waiting_tries < n → p.seat.waiting_tries < w.waiting_tries
      pause_waited more =
          let same : w.waiting_tries ≡ n =
          ap (λ (x : SeatView ClientPart (HostedEvent V A)). x.waiting_tries) given ∙ ap (λ (x : SeatView ClientPart (HostedEvent V A)). x.waiting_tries) taken in
          omega (arith, more, same)

-- what a pass that waited owes, once it gave the application back
pub record PausedBack {V A : Type 0} (K : VolumeKeeper V) (behaviour : Behaviour A) (places : Places) (old new : PassView V A) : Type 0 where
  pub is : IsPass K behaviour new
  pub of : IsPassOf places new
  pub goes : GoesOnBy 0 old new
  pub same : MakesNothing old new

module _ {V A C : Type 0} (K : VolumeKeeper V) (behaviour : Behaviour A) (id_of : C → TableId) (cells : List C) (cell : C) (storage : TableId) (places : Places) (p old : PassView V A)
    (view_is : p ≡ old)
    (is : IsPass K behaviour p) (of_old : IsPassOf places old) (places_are : (let s : Places = record { cells = map id_of cells; storage = storage } in s) ≡ places) (at : cell ≡ get_or
    cells p.app cell)
    (h : HostedView V A) (u : SeatView ClientPart (HostedEvent V A)) (taken : u ≡ with_turn (with_waits p.seat u.waiting_tries) u.turn 0)
    (found : segment p.seat.first (length p.seat.own) (parts_for h.log 0 h.misses) ≡ p.seat.own) (goes_on : IsPrefix p.seat.trail (trail_with h.origin h.log)) (keeps : KeepsHosted K behaviour h) where
  abbrev own : IsPassOf places p
  own = subst (λ (x : PassView V A). IsPassOf places x) (sym view_is) of_old

  abbrev here : IsPassOf (let s : Places = record { cells = map id_of cells; storage = storage } in s) p
  here = subst (λ (x : Places). IsPassOf x p) (sym places_are) own

  abbrev gives : GivesBack K behaviour (waiting K behaviour p h u.waiting_tries) h h (missed_by h.misses p.client)
  gives = pause_gives K behaviour p h u.waiting_tries is found goes_on keeps

  -- the storage's cell is the one that the application's seat is of
  pub paused_storage : storage ≡ h.origin.storage
  paused_storage = storage_of K behaviour p h (record { is = is; own = found; goes_on = goes_on; eight = keeps.eight }) (let s : Places = record {
    cells = map id_of cells;
    storage =
        storage;
  } in s) here

  pub gives_parts_back : (back : HostedView V A) → back ≡ h → taken_parts u.turn ≡ parts_for h.log 0 h.misses → ChangesOnlyWithin u.first (length u.own) (taken_parts u.turn) (parts_for
      back.log 0 back.misses)
  gives_parts_back back same had =
      subst (λ (x : HostedView V A). ChangesOnlyWithin u.first (length u.own) (taken_parts u.turn) (parts_for x.log 0 x.misses)) (sym same)
      (pause_parts K behaviour p h u.waiting_tries gives u u.turn taken had)

  pub gives_trail_back : (back : HostedView V A) → back ≡ h → taken_trail u.turn ≡ trail_with h.origin h.log → IsPrefix (taken_trail u.turn) (trail_with back.origin back.log)
  gives_trail_back back same had =
      subst (λ (x : HostedView V A). IsPrefix (taken_trail u.turn) (trail_with x.origin x.log)) (sym same) (pause_trail K behaviour p h u.waiting_tries gives u u.turn taken had)

  pub paused_back : (back : HostedView V A) → back ≡ h → (id : TableId) → id ≡ id_of cell → (w : SeatView ClientPart (HostedEvent V A))
      → w ≡ view_after_give u (parts_for back.log 0 back.misses) (trail_with back.origin back.log)
      → PausedBack K behaviour places old (record { app = p.app; client = p.client; calls = p.calls; cell = id; seat = w })
  paused_back back same id of_cell w given_back =
      let given : w ≡ view_after_give u (parts_for h.log 0 h.misses) (trail_with h.origin h.log) =
      subst (λ (x : HostedView V A). w ≡ view_after_give u (parts_for x.log 0 x.misses) (trail_with x.origin x.log)) same given_back in
      let same_cell : id ≡ p.cell = of_cell ∙ cell_there id_of cells p.app cell p.cell here.cell at in
      let new : PassView V A = record { app = p.app; client = p.client; calls = p.calls; cell = id; seat = w } in
      record {
        is = is_pass_paused K behaviour p h u.waiting_tries gives u u.turn taken id same_cell w given is;
        of = of_paused K behaviour p h u.waiting_tries gives u u.turn taken id same_cell w given places own;
        goes = subst (λ (x : PassView V A). GoesOnBy 0 x new) view_is (goes_paused K behaviour p h u.waiting_tries gives u u.turn taken id same_cell w given);
        same = subst (λ (x : PassView V A). MakesNothing x new) view_is (pause_same K behaviour p h u.waiting_tries gives u u.turn taken id same_cell w given);
      }
