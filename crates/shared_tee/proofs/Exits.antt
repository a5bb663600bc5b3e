-- The ways out of a pass's call, with all that each owes of the pass.
use Rattle.app_api.specs.Behaviours.{Behaviour}
use Rattle.std.proofs.Common.{◌≡◌, ◌+◌, ℕ, List, Some, get_or, map, sym, subst, ◌∙◌}
use Rattle.std.specs.Prelude.{slice_get}
use Rattle.turn_cell.specs.Words.{TableId}
use Rattle.turn_cell.specs.View.{view_after_give, with_miss, with_turn}
use Rattle.turn_cell.specs.declared.view.SeatView.{SeatView}
use Rattle.store_api.specs.Volumes.{VolumeKeeper}
use Rattle.shared_parts.specs.HostedApps.{ClientPart, HostedEvent, HostedView, parts_for, trail_with}
use Rattle.shared_parts.specs.declared.missed.Missed.{Missed}
use Rattle.shared_tee.specs.Passes.{GoesOn, IsPass, IsPassOf, MissesOwnCell, PassView, Places}
use Rattle.shared_tee.proofs.PassLemmas.{GivesBack, cell_at, cell_there, cell_within, goes_then, goes_tried, is_pass_then, is_pass_tried, misses_tried, of_then, of_tried}

module _ {V A : Type 0} (K : VolumeKeeper V) (behaviour : Behaviour A) where
  -- the one try found the application's cell taken
  pub record TriedInVain (places : Places) (there : Type 0) (p old new : PassView V A) (word : ℕ) : Type 0 where
    pub is : IsPass K behaviour new
    pub of : IsPassOf places new
    pub goes : GoesOn old new
    pub misses : MissesOwnCell word p new
    pub found : there

  -- the application was given back
  pub record GaveBack (places : Places) (p old new : PassView V A) : Type 0 where
    pub is : IsPass K behaviour new
    pub of : IsPassOf places new
    pub goes : GoesOn old new
    pub same_cell : new.cell ≡ p.cell

  module _ {C : Type 0} (id_of : C → TableId) (cells : List C) (cell : C) (storage : TableId) (places : Places) (p old : PassView V A) (view_is : p ≡ old) (of_old : IsPassOf places old)
      (places_are : (let s : Places = record { cells = map id_of cells; storage = storage } in s) ≡ places) (at : cell ≡ get_or cells p.app cell) where
    abbrev own : IsPassOf places p
    own = subst (λ (x : PassView V A). IsPassOf places x) (sym view_is) of_old

    abbrev here : slice_get (map id_of cells) p.app ≡ Some p.cell
    here = (subst (λ (x : Places). IsPassOf x p) (sym places_are) own).cell

    same : (id : TableId) → id ≡ id_of cell → id ≡ p.cell
    same id is = is ∙ cell_there id_of cells p.app cell p.cell here at

    pub tried_in_vain : IsPass K behaviour p → (id : TableId) (w : SeatView ClientPart (HostedEvent V A)) (word : ℕ) → id ≡ id_of cell → w ≡ with_miss p.seat word
        → TriedInVain places (slice_get cells p.app ≡ Some cell) p old (record { app = p.app; client = p.client; calls = p.calls + 1; cell = id; seat = w }) word
    tried_in_vain was id w word is missed = record {
      is = is_pass_tried K behaviour p id (same id is) w word missed was;
      of = of_tried K behaviour p id (same id is) w word missed places own;
      goes = subst (λ (x : PassView V A). GoesOn x (record { app = p.app; client = p.client; calls = p.calls + 1; cell = id; seat = w })) view_is (goes_tried K behaviour p id (same id
          is) w word missed);
      misses = misses_tried K behaviour p id (same id is) w word missed;
      found = cell_at cells p.app cell (cell_within id_of cells p.app p.cell here) at;
    }

    pub gave_back : (h now : HostedView V A) (m : Missed) (g : GivesBack K behaviour p h now m) (id : TableId) (u w : SeatView ClientPart (HostedEvent V A)) → id ≡ id_of cell
        → u ≡ with_turn p.seat u.turn 0 → w ≡ view_after_give u (parts_for now.log 0 now.misses) (trail_with now.origin now.log)
        → GaveBack places p old (record { app = p.app; client = p.client; calls = p.calls + 1; cell = id; seat = w })
    gave_back h now m g id u w is taken given = record {
      is = is_pass_then K behaviour p h now m g id (same id is) u w u.turn taken given;
      of = of_then K behaviour p h now m g id (same id is) u w u.turn taken given places own;
      goes = subst (λ (x : PassView V A). GoesOn x (record { app = p.app; client = p.client; calls = p.calls + 1; cell = id; seat = w })) view_is
          (goes_then K behaviour p h now m g id (same id is) u w u.turn taken given);
      same_cell = same id is;
    }
