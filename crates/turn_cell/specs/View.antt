-- What a seat knows, as plain data, and what each call makes of it.
use Rattle.std.specs.Prelude.{◌≡◌, ℕ, ◌+◌, ◌-◌, ◌<◌, ◌⊎◌, ◌++◌, List, [], ◌∷◌, length, take, drop, min, nat_le, Option, None, if◌then◌else◌}
use mathlib.Core.List.{IsPrefix}
use Rattle.turn_cell.specs.declared.view.SeatView.{SeatView}
use Rattle.turn_cell.specs.declared.view.Turn.{Turn}
use Rattle.turn_cell.specs.declared.view.Turn.TheVariants.{Free, Taken, Announced}

-- count elements from the place first on
abbrev pub segment : {A : Type 0} → ℕ → ℕ → List A → List A
segment first count xs = take count (drop first xs)

-- as many elements, and outside of the range the same
abbrev pub ChangesOnlyWithin : {A : Type 0} → ℕ → ℕ → List A → List A → Type 0
ChangesOnlyWithin first count old new =
    (length new ≡ length old) × (take first new ≡ take first old) × (drop (first + count) new ≡ drop (first + count) old)

-- the longer of two lists
abbrev pub longer : {A : Type 0} → List A → List A → List A
longer xs ys = if nat_le (length xs) (length ys) then ys else xs

-- a value taken by a seat with this view: the seat's parts are as it last left them, and the trail goes on from the one it knew
abbrev pub Continues : {T P E : Type 0} → (T → List P) → (T → List E) → SeatView P E → T → Type 0
Continues parts_of trail_of v x = (segment v.first (length v.own) (parts_of x) ≡ v.own) × IsPrefix v.trail (trail_of x)

module _ {P E : Type 0} where
  -- the first seat's view of a cell that is made with these parts and this trail
  abbrev pub opening_view : List P → List E → SeatView P E
  opening_view parts trail = record {
    first = 0;
    own = parts;
    original = parts;
    trail = trail;
    incoming = [];
    turn = Free;
    misses = 0;
    missed_word = 0;
    waiting_tries = 0;
    looks = 0;
    found_word = 0;
  }

  -- the view with this turn, after the word was found
  abbrev pub with_turn : SeatView P E → Turn P E → ℕ → SeatView P E
  with_turn v turn word = record v { turn = turn; found_word = word }

  -- the word was found
  abbrev pub with_word : SeatView P E → ℕ → SeatView P E
  with_word v word = record v { found_word = word }

  -- a try found the word, which wasn't 0
  abbrev pub with_miss : SeatView P E → ℕ → SeatView P E
  with_miss v word = record v { misses = v.misses + 1; missed_word = word; found_word = word }

  -- so many tries were made while the seat waited
  abbrev pub with_waits : SeatView P E → ℕ → SeatView P E
  with_waits v count = record v { waiting_tries = count }

  -- one more such try
  abbrev pub with_wait : SeatView P E → SeatView P E
  with_wait v = with_waits v (v.waiting_tries + 1)

  -- a look found the word
  abbrev pub with_look : SeatView P E → ℕ → SeatView P E
  with_look v word = record v { looks = v.looks + 1; found_word = word }

  -- a place within the range, above its first part
  abbrev pub CutsWithin : ℕ → SeatView P E → Type 0
  CutsWithin from v = (v.first < from) × (from < v.first + length v.own)

  -- the view after a value with these parts and this trail was given
  abbrev pub view_after_give : SeatView P E → List P → List E → SeatView P E
  view_after_give v parts trail = record v { own = segment v.first (length v.own) parts; trail = trail; turn = Free }

  -- the view without its parts from a place on
  abbrev pub left_at : ℕ → SeatView P E → SeatView P E
  left_at from v = record v { own = take (from - v.first) v.own; original = take (from - v.first) v.original }

  -- a new seat's view with those parts
  abbrev pub right_at : ℕ → SeatView P E → SeatView P E
  right_at from v = record {
    first = from;
    own = drop (from - v.first) v.own;
    original = drop (from - v.first) v.original;
    trail = v.trail;
    incoming = [];
    turn = Free;
    misses = 0;
    missed_word = 0;
    waiting_tries = 0;
    looks = 0;
    found_word = 0;
  }

  -- one range begins where the other ends
  abbrev pub Adjoin : SeatView P E → SeatView P E → Type 0
  Adjoin v w = (w.first ≡ v.first + length v.own) ⊎ (v.first ≡ w.first + length w.own)

  -- what two seats with adjoining ranges know of their parts, in order
  abbrev pub in_order : {A : Type 0} → SeatView P E → SeatView P E → List A → List A → List A
  in_order v w xs ys = if nat_le v.first w.first then xs ++ ys else ys ++ xs

  -- both ranges, and the other's trail beside one's own
  abbrev pub combine : SeatView P E → SeatView P E → SeatView P E
  combine v w = record v {
    first = min v.first w.first;
    own = in_order v w v.own w.own;
    original = in_order v w v.original w.original;
    incoming = w.trail;
  }

  -- the longer of the two trails in place of both
  abbrev pub settle : SeatView P E → SeatView P E
  settle v = record v { trail = longer v.trail v.incoming; incoming = [] }

  -- the view of a seat that another was joined into
  abbrev pub view_after_join : SeatView P E → SeatView P E → SeatView P E
  view_after_join v w = settle (combine v w)

  -- the view of a seat that was joined into another: it owns nothing
  abbrev pub spent_view : SeatView P E
  spent_view = opening_view [] []

  -- the parts of the value that was taken, none where none is out
  abbrev pub taken_parts : Turn P E → List P
  taken_parts Free = []
  taken_parts (Taken parts trail) = parts
  taken_parts (Announced parts trail new_parts new_trail) = parts

  -- its trail
  abbrev pub taken_trail : Turn P E → List E
  taken_trail Free = []
  taken_trail (Taken parts trail) = trail
  taken_trail (Announced parts trail new_parts new_trail) = trail

  -- the parts of the value that is being given back
  abbrev pub announced_parts : Turn P E → List P
  announced_parts Free = []
  announced_parts (Taken parts trail) = []
  announced_parts (Announced parts trail new_parts new_trail) = new_parts

  -- its trail
  abbrev pub announced_trail : Turn P E → List E
  announced_trail Free = []
  announced_trail (Taken parts trail) = []
  announced_trail (Announced parts trail new_parts new_trail) = new_trail

  -- the seat knows what it took and what it will give
  abbrev pub with_offer : SeatView P E → List P → List E → SeatView P E
  with_offer v parts trail = record v { turn = Announced (taken_parts v.turn) (taken_trail v.turn) parts trail }

  -- the view after what was announced was given
  abbrev pub view_after_release : SeatView P E → SeatView P E
  view_after_release v = view_after_give v (announced_parts v.turn) (announced_trail v.turn)

  -- the view has the turn, and has taken down the value's parts and its trail
  abbrev pub HoldsTurn : SeatView P E → Type 0
  HoldsTurn v = v.turn ≡ Taken (taken_parts v.turn) (taken_trail v.turn)

module _ {T P E : Type 0} where
  -- the value has been announced
  abbrev pub Offers : (T → List P) → (T → List E) → SeatView P E → T → Type 0
  Offers parts_of trail_of v value =
      v.turn ≡ Announced (taken_parts v.turn) (taken_trail v.turn) (parts_of value) (trail_of value)

  -- the value has as many parts as the one taken, and the seat's own parts alone may differ
  abbrev pub KeepsOtherParts : (T → List P) → SeatView P E → T → Type 0
  KeepsOtherParts parts_of v value = ChangesOnlyWithin v.first (length v.own) (taken_parts v.turn) (parts_of value)

  -- the value's trail goes on from the one taken
  abbrev pub ExtendsTrail : (T → List E) → SeatView P E → T → Type 0
  ExtendsTrail trail_of v value = IsPrefix (taken_trail v.turn) (trail_of value)

-- what a seat holds of the slot: nothing, or the slot, which is empty between the calls
abbrev pub hand_of : {T P E : Type 0} → Turn P E → List (ℕ × Option T)
hand_of Free = []
hand_of (Taken p t) = (0, None) ∷ []
hand_of (Announced p t q u) = (0, None) ∷ []
