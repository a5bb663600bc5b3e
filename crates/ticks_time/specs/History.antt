-- A clock by all that happened to it.
use Rattle.std.specs.Prelude.{ℕ, ◌+◌, Bool, true, false, List, [], ◌∷◌}
use Rattle.ticks_time.specs.Clock.{Ticking, after_restart, new_clock, with_own, with_ticks}
use Rattle.ticks_time.specs.declared.time.Time.{Time}

-- what happens to a clock
pub data Happening : Type 0 where
  Ticked : ℕ → Happening
  WasSet : Time → Happening
  Restarted : Happening

-- a clock behind one more happening
abbrev pub behind : Ticking → Happening → Ticking
behind clock (Ticked ticks) = with_ticks clock ticks
behind clock (WasSet time) = with_own clock time
behind clock Restarted = after_restart clock

-- a new clock behind all of these, the last of them first
abbrev pub clock_after : List Happening → Ticking
clock_after [] = new_clock
clock_after (last ∷ before) = behind (clock_after before) last

-- how many ticks there were
abbrev pub ticks_in : List Happening → ℕ
ticks_in [] = 0
ticks_in (Ticked ticks ∷ before) = ticks_in before + ticks
ticks_in (WasSet time ∷ before) = ticks_in before
ticks_in (Restarted ∷ before) = ticks_in before

-- a time was set
abbrev pub was_set : List Happening → Bool
was_set [] = false
was_set (Ticked ticks ∷ before) = was_set before
was_set (WasSet time ∷ before) = true
was_set (Restarted ∷ before) = was_set before

-- a time was set, and no restart came since
abbrev pub was_set_since_restart : List Happening → Bool
was_set_since_restart [] = false
was_set_since_restart (Ticked ticks ∷ before) = was_set_since_restart before
was_set_since_restart (WasSet time ∷ before) = true
was_set_since_restart (Restarted ∷ before) = false
