-- What each atomic step tells the seat that makes it: the seat before, with the slots in its hands, the word found, and the seat after.
use Rattle.std.specs.Prelude.{◌≡◌, ◌≢◌, ℕ, List, [], ◌∷◌, length, Option, Some}
use mathlib.Core.Option as logic
use mathlib.Core.List.{IsPrefix}
use Rattle.atomic_table.specs.Table.{Me}
use Rattle.turn_cell.specs.declared.view.SeatView.{SeatView}
use Rattle.turn_cell.specs.declared.view.Turn.TheVariants.{Taken}
use Rattle.turn_cell.specs.View.{Continues, with_turn, with_word, with_miss, with_wait, with_look, with_offer, view_after_release, settle}

module _ {T P E : Type 0} (parts_of : T → List P) (trail_of : T → List E) where
  -- the turn is taken: the value's parts and trail are taken down, and the slot is in the seat's hands
  abbrev pub TakesTurn : Me (Option T) (SeatView P E) → Me (Option T) (SeatView P E) → Type 0
  TakesTurn me me' =
      (x : T) × (me' ≡ (with_turn me.0 (Taken (parts_of x) (trail_of x)) 0, (0, Some x) ∷ me.1)) × Continues parts_of trail_of me.0 x

  -- a try takes the turn, or counts a miss
  abbrev pub tries : Me (Option T) (SeatView P E) → ℕ → Me (Option T) (SeatView P E) → Type 0
  tries me word me' = (word ≡ 0 → TakesTurn me me') × (word ≢ 0 → me' ≡ (with_miss me.0 word, me.1))

  -- a try of a seat that waits takes the turn, or finds the word; it is counted as such a try
  abbrev pub waits : Me (Option T) (SeatView P E) → ℕ → Me (Option T) (SeatView P E) → Type 0
  waits me word me' = (word ≡ 0 → TakesTurn (with_wait me.0, me.1) me') × (word ≢ 0 → me' ≡ (with_word (with_wait me.0) word, me.1))

  -- the value that will be given is announced
  abbrev pub announces : logic.Option (Option T) → Me (Option T) (SeatView P E) → Me (Option T) (SeatView P E) → Type 0
  announces said me me' = (x : T) → said ≡ logic.some (Some x) → me' ≡ (with_offer me.0 (parts_of x) (trail_of x), me.1)

module _ {S P E : Type 0} where
  -- the turn ends, the seat knows what it announced, and its hands are empty
  abbrev pub releases : Me S (SeatView P E) → Me S (SeatView P E) → Type 0
  releases me me' = (me' ≡ (view_after_release me.0, [])) × (length me'.0.own ≡ length me.0.own)

  -- the word is looked at
  abbrev pub looks : Me S (SeatView P E) → ℕ → Me S (SeatView P E) → Type 0
  looks me word me' = me' ≡ (with_look me.0 word, me.1)

  -- of two trails, each of which begins the trail of the cell, the longer is kept
  abbrev pub settles : Me S (SeatView P E) → Me S (SeatView P E) → Type 0
  settles me me' = (me' ≡ (settle me.0, me.1)) × IsPrefix me.0.trail me'.0.trail × IsPrefix me.0.incoming me'.0.trail
