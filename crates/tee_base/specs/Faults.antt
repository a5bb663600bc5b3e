-- Counts of faults: of a source, a sink, a board, a store. A fault is told only where the count rose in the call.
use Rattle.std.specs.Prelude.{◌≡◌, ◌<◌, ◌+◌, ◌-◌, ◌^◌, ◌⊎◌, ℕ, min, List, Result, is_err, if◌then◌else◌, length}

-- the count rose from before to after, or stands at its type's end
abbrev pub Rose : ℕ → ℕ → Type 0
Rose before after = (before < after) ⊎ (after ≡ 2 ^ 64 - 1)

-- one more, up to the end of the count's type
abbrev pub one_more : ℕ → ℕ
one_more n = min (n + 1) (2 ^ 64 - 1)

-- the count after a call: a fault is counted exactly at an Err
abbrev pub faults_after : {A E : Type 0} → Result A E → ℕ → ℕ
faults_after answer n = if is_err answer then one_more n else n

-- a write of n bytes took at least one, if there was one
abbrev pub TakesSome : List ℕ → ℕ → Type 0
TakesSome piece n = 0 < length piece → 0 < n
