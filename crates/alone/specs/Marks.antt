-- How the numbered turns of a machine go.
use Rattle.std.specs.Prelude.{ℕ, ◌≡◌, ◌+◌, ◌≤◌, ◌<◌, Bool, false, ◌&&◌, if◌then◌else◌}
use Rattle.alone.specs.Machine.{Machine}
use Rattle.alone.specs.Step.{Event, Turned, TurnLost, Corrupted, Starved, is_enabled}
use Rattle.tee_base.specs.Words.{InstanceNumber}

-- by its number, whether a turn is marked as lost, as damaged, or as starved
pub record Marks : Type 0 where
  pub lost : ℕ → Bool
  pub corrupt : ℕ → Bool
  pub starved : ℕ → Bool

-- no turn is marked: the store serves each, and each finds memory
abbrev pub no_marks : Marks
no_marks = record { lost = λ turn. false; corrupt = λ turn. false; starved = λ turn. false }

-- the event that the machine's next turn is, one of this instance: lost, damaged or starved where the turn is marked so and that event
-- may stand, tried in this order, and else a turn in which the store serves
unfoldable pub event_at : {A : Type 0} → Marks → Machine A → InstanceNumber → Event
event_at marks m i =
    let turn = m.turns + 1 in
    if marks.lost turn && is_enabled m (TurnLost i) then TurnLost i
    else if marks.corrupt turn && is_enabled m (Corrupted i) then Corrupted i
    else if marks.starved turn && is_enabled m (Starved i) then Starved i
    else Turned i

-- the turn of this number is marked alike
pub record SameAt (turn : ℕ) (these those : Marks) : Type 0 where
  pub lost : these.lost turn ≡ those.lost turn
  pub corrupt : these.corrupt turn ≡ those.corrupt turn
  pub starved : these.starved turn ≡ those.starved turn

-- each turn behind one number, up to another, is marked alike
abbrev pub SameWithin : ℕ → ℕ → Marks → Marks → Type 0
SameWithin from to these those = (turn : ℕ) → from < turn → turn ≤ to → SameAt turn these those
