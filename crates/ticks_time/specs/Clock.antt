-- A clock of ticks, each a millisecond (TEE Internal Core API 1.3, chapter 7).
use Rattle.std.specs.Prelude.{ℕ, ◌<◌, ◌≤◌, ◌+◌, ◌-◌, ◌*◌, ◌/◌, ◌%◌, ◌^◌, ◌==◌, nat_le, nat_lt, Bool, false, Option, None, Some, Result, Ok, Err, if◌then◌else◌}
use Rattle.ticks_time.specs.declared.clock.OwnTime.{OwnTime}
use Rattle.ticks_time.specs.declared.clock.OwnTime.TheVariants.{Never, Set, Gone}
use Rattle.ticks_time.specs.declared.time.TheConstants.{FOREVER, MILLIS}
use Rattle.ticks_time.specs.declared.time.Time.{Time}
use Rattle.ticks_time.specs.declared.time.TimeAnswer.{TimeAnswer}
use Rattle.ticks_time.specs.declared.time.TimeAnswer.TheVariants.{NotSet, NeedsReset, Overflow}

-- a clock: how many ticks there were, and the time that the application set
pub record Ticking : Type 0 where
  pub ticks : ℕ
  pub own : OwnTime

-- no ticks, and no time set
abbrev pub new_clock : Ticking
new_clock = record { ticks = 0; own = Never }

-- a time was set at this number of ticks or before, and has fewer milliseconds than a second
abbrev pub IsSetBy : ℕ → OwnTime → Type 0
IsSetBy ticks (Set time at) = (at ≤ ticks) × (time.millis < MILLIS)
IsSetBy ticks _ = Unit {0}

-- what each clock keeps
pub record IsClock (clock : Ticking) : Type 0 where
  pub few : clock.ticks < 2 ^ 63
  pub own : IsSetBy clock.ticks clock.own

-- so many more ticks
abbrev pub with_ticks : Ticking → ℕ → Ticking
with_ticks clock ticks = record clock { ticks = clock.ticks + ticks }

-- the number of ticks at which a wait of so many ends that begins now; none for one that has no end (section 7.2.2)
abbrev pub deadline_of : Ticking → ℕ → Option ℕ
deadline_of clock ticks = if ticks == FOREVER then None else Some (clock.ticks + ticks)

-- there is a deadline, and the clock has come to it
abbrev pub is_due : Ticking → Option ℕ → Bool
is_due clock None = false
is_due clock (Some deadline) = nat_le deadline clock.ticks

-- how many milliseconds a time has in all
abbrev pub millis_in : Time → ℕ
millis_in time = time.seconds * MILLIS + time.millis

-- so many milliseconds as a time, whose seconds have 32 bits
abbrev pub time_of : ℕ → Result Time TimeAnswer
time_of millis =
    if nat_lt (millis / MILLIS) (2 ^ 32) then Ok (record { seconds = millis / MILLIS; millis = millis % MILLIS })
    else Err Overflow

-- the time of the system: the ticks (section 7.2.1)
abbrev pub system_time : Ticking → Result Time TimeAnswer
system_time clock = time_of clock.ticks

-- a time is set (section 7.2.4)
abbrev pub with_own : Ticking → Time → Ticking
with_own clock time = record clock { own = Set time clock.ticks }

-- the time that was set, when the clock has come to so many ticks
abbrev pub own_at : ℕ → OwnTime → Result Time TimeAnswer
own_at ticks Never = Err NotSet
own_at ticks Gone = Err NeedsReset
own_at ticks (Set time at) = time_of (millis_in time + (ticks - at))

-- the application's own time: the one that was set, and the ticks since (section 7.2.3)
abbrev pub own_time : Ticking → Result Time TimeAnswer
own_time clock = own_at clock.ticks clock.own

-- what a restart leaves of a time that was set
abbrev pub own_after_restart : OwnTime → OwnTime
own_after_restart Never = Never
own_after_restart _ = Gone

-- a restart: the ticks go on
abbrev pub after_restart : Ticking → Ticking
after_restart clock = record clock { own = own_after_restart clock.own }
