-- The rule of a cell, which each atomic step keeps.
use Rattle.std.specs.Prelude.{◌≡◌, ℕ, ◌+◌, ◌≤◌, ◌<◌, List, length, slice_index, Option, Some}
use mathlib.Core.Option as logic
use mathlib.Core.List.{IsPrefix}
use lib.ListN.{get_elem?}
use Rattle.atomic_table.specs.Table.{State}
use Rattle.turn_cell.specs.declared.view.SeatView.{SeatView}
use Rattle.turn_cell.specs.declared.view.Turn.{Turn}
use Rattle.turn_cell.specs.declared.view.Turn.TheVariants.{Free, Taken, Announced}
use Rattle.turn_cell.specs.View.{ChangesOnlyWithin, segment}

module _ {P E : Type 0} (word holder seat first count : ℕ) (parts : List P) (trail : List E) where
  -- A seat with the turn is the holder, the word is its number plus one, and what it took down is the value's parts and trail.
  -- What it announces differs in its own parts alone, and the trail goes on.
  abbrev pub TurnFits : Turn P E → Type 0
  TurnFits Free = Unit {0}
  TurnFits (Taken p t) = (word ≡ first + 1) × (seat ≡ holder) × (p ≡ parts) × (t ≡ trail)
  TurnFits (Announced p t q u) =
      (word ≡ first + 1) × (seat ≡ holder) × (p ≡ parts) × (t ≡ trail) × ChangesOnlyWithin first count p q × IsPrefix t u

module _ {P E : Type 0} where
  -- the seat has the value
  abbrev pub HasTurn : Turn P E → Type 0
  HasTurn Free = ⊥
  HasTurn (Taken p t) = Unit {0}
  HasTurn (Announced p t q u) = Unit {0}

  -- the word names this view, which has the turn
  abbrev pub IsHolder : ℕ → SeatView P E → Type 0
  IsHolder word v = HasTurn v.turn × (word ≡ v.first + 1) × (0 < length v.own)

  -- the part is in the view's range
  abbrev pub Owns : ℕ → SeatView P E → Type 0
  Owns part v = (v.first ≤ part) × (part < v.first + length v.own)

  -- A view is true of the cell: its range is its own, it knows these parts as they are (`parts`) and as they were when the cell
  -- was made (`made`), and what it knows of the trail begins the trail
  pub record ViewFits (word holder : ℕ) (owner : ℕ → ℕ) (made parts : List P) (trail : List E) (seat : ℕ) (v : SeatView P E) : Type 0 where
    pub inside : v.first + length v.own ≤ length parts
    pub owns : (part : ℕ) → v.first ≤ part → part < v.first + length v.own → owner part ≡ seat
    pub knows : v.own ≡ segment v.first (length v.own) parts
    pub knew : v.original ≡ segment v.first (length v.own) made
    pub behind : IsPrefix v.trail trail
    pub incoming_behind : IsPrefix v.incoming trail
    pub turn_fits : TurnFits word holder seat v.first (length v.own) parts trail v.turn

-- the seat's view is so
abbrev pub SeatIs : {S V : Type 0} → State S V → ℕ → (V → Type 0) → Type 0
SeatIs {S} {V} s seat F = (v : V) × (get_elem? s.views seat ≡ logic.some v) × F v

module _ {T P E : Type 0} (parts_of : T → List P) (trail_of : T → List E) where
  -- the slot is home, with a value of these parts and this trail
  abbrev pub AtHome : List (logic.Option (Option T)) → List P → List E → Type 0
  AtHome homes parts trail =
      (x : T) × (get_elem? homes 0 ≡ logic.some (logic.some (Some x))) × (parts_of x ≡ parts) × (trail_of x ≡ trail)

  -- Each part has one owner, which is a seat with that part in its range, and each view fits. The word is 0 and the value, of
  -- these parts and this trail, is at home; or the word is a number plus one, and just the seat of that number has the turn.
  -- While the value is out, the parts and the trail are those that were taken down.
  pub record IsConsistent (made : List P) (s : State (Option T) (SeatView P E)) : Type 0 where
    pub holder : ℕ
    pub owner : ℕ → ℕ
    pub parts : List P
    pub trail : List E
    pub one_word : length s.words ≡ 1
    pub one_slot : length s.homes ≡ 1
    pub counted : length parts ≡ length made
    pub home : slice_index s.words 0 ≡ 0 → AtHome s.homes parts trail
    pub held : 0 < slice_index s.words 0 → SeatIs s holder (IsHolder (slice_index s.words 0))
    pub each : (seat : ℕ) (v : SeatView P E) → get_elem? s.views seat ≡ logic.some v
        → ViewFits (slice_index s.words 0) holder owner made parts trail seat v
    pub covered : (part : ℕ) → part < length made → SeatIs s (owner part) (Owns part)
