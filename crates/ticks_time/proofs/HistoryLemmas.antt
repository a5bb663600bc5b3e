-- A clock by all that happened to it.
use Rattle.std.proofs.Common.{ℕ, ◌≡◌, ◌↔◌, ◌+◌, ◌-◌, ◌/◌, ◌^◌, nat_lt, Bool, true, false, List, [], ◌∷◌, refl, ap, Ok, Err, if◌then◌else◌}
use Rattle.ticks_time.specs.Clock.{millis_in, own_after_restart, own_at, own_time, time_of}
use Rattle.ticks_time.specs.History.{Happening, Ticked, WasSet, Restarted, clock_after, ticks_in, was_set, was_set_since_restart}
use Rattle.ticks_time.specs.declared.clock.OwnTime.{OwnTime}
use Rattle.ticks_time.specs.declared.clock.OwnTime.TheVariants.{Never, Set, Gone}
use Rattle.ticks_time.specs.declared.time.TheConstants.{MILLIS}
use Rattle.ticks_time.specs.declared.time.Time.{Time}
use Rattle.ticks_time.specs.declared.time.TimeAnswer.{TimeAnswer}
use Rattle.ticks_time.specs.declared.time.TimeAnswer.TheVariants.{NotSet, NeedsReset, Overflow}

pub ticks_are : (happened : List Happening) → (clock_after happened).ticks ≡ ticks_in happened
ticks_are [] = refl
ticks_are (Ticked ticks ∷ before) = ap (λ n. n + ticks) (ticks_are before)
ticks_are (WasSet time ∷ before) = ticks_are before
ticks_are (Restarted ∷ before) = ticks_are before

-- what the own time tells of whether one was set, and whether a restart came since
abbrev pub Tells : OwnTime → Bool → Bool → Type 0
Tells Never ever since = ever ≡ false
Tells Gone ever since = (ever ≡ true) × (since ≡ false)
Tells (Set time at) ever since = (ever ≡ true) × (since ≡ true)

restarted : (own : OwnTime) (ever since : Bool) → Tells own ever since → Tells (own_after_restart own) ever false
restarted Never ever since told = told
restarted Gone ever since told = (told.0, refl)
restarted (Set time at) ever since told = (told.0, refl)

tells : (happened : List Happening) → Tells (clock_after happened).own (was_set happened) (was_set_since_restart happened)
tells [] = refl
tells (Ticked ticks ∷ before) = tells before
tells (WasSet time ∷ before) = (refl, refl)
tells (Restarted ∷ before) = restarted (clock_after before).own (was_set before) (was_set_since_restart before) (tells before)

by_size : (small : Bool) (time : Time) (why : TimeAnswer) → (if small then Ok time else Err Overflow) ≡ Err why → why ≡ Overflow
by_size true time why told = cc
by_size false time why told = cc

-- a time that is told is neither of these two refusals
is_told : (millis : ℕ) (why : TimeAnswer) → time_of millis ≡ Err why → why ≡ Overflow
is_told millis why told = by_size (nat_lt (millis / MILLIS) (2 ^ 32)) _ why told

never : (ticks : ℕ) (own : OwnTime) (ever since : Bool) → Tells own ever since → (own_at ticks own ≡ Err NotSet) ↔ (ever ≡ false)
never ticks Never ever since told = (λ _. told, λ _. refl)
never ticks Gone ever since told = (λ is. cc, λ none. cc)
never ticks (Set time at) ever since told = (λ is. let not : NotSet ≡ Overflow = is_told (millis_in time + (ticks - at)) NotSet is in cc, λ none. cc)

gone : (ticks : ℕ) (own : OwnTime) (ever since : Bool) → Tells own ever since
    → (own_at ticks own ≡ Err NeedsReset) ↔ ((ever ≡ true) × (since ≡ false))
gone ticks Never ever since told = (λ is. cc, λ both. cc)
gone ticks Gone ever since told = (λ _. told, λ _. refl)
gone ticks (Set time at) ever since told = (λ is. let not : NeedsReset ≡ Overflow = is_told (millis_in time + (ticks - at)) NeedsReset is in cc, λ both. cc)

pub never_is : (happened : List Happening) → (own_time (clock_after happened) ≡ Err NotSet) ↔ (was_set happened ≡ false)
never_is happened = never (clock_after happened).ticks (clock_after happened).own (was_set happened) (was_set_since_restart happened) (tells happened)

pub gone_is : (happened : List Happening)
    → (own_time (clock_after happened) ≡ Err NeedsReset) ↔ ((was_set happened ≡ true) × (was_set_since_restart happened ≡ false))
gone_is happened = gone (clock_after happened).ticks (clock_after happened).own (was_set happened) (was_set_since_restart happened) (tells happened)
