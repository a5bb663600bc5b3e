-- What a search for the header that counts finds on an honest board, and what it leaves.
use Rattle.std.specs.Prelude.{◌≡◌, ◌≢◌, ◌≤◌, ◌<◌, ℕ, Bool, Option, Some, None, Result, Ok, Err, OnErr}
use Rattle.board.specs.Moment.{Moment, IsCounter}
use Rattle.epoch.specs.Opening.{IsRuled, opening_of, opens_as}
use Rattle.epoch.specs.declared.answer.OpenAnswer.{OpenAnswer}
use Rattle.epoch.specs.declared.answer.OpenAnswer.TheVariants.{Rollback, Failed}
use Rattle.epoch.specs.declared.header.Header.{Header}
use Rattle.epoch.specs.declared.rule.Found.{Found}
use Rattle.tee_base.specs.Words.{Counter, Image, Key, Sequence}

-- the answer is the rule's, over what reads give and a counter that the board may have; where it is a refusal of the rule, the
-- board may have that counter afterwards too
pub record Finds (knows : ℕ → Bool) (blocks size : ℕ) (key : Key) (old new : Moment)
    (result : Result (Option Header) OpenAnswer) : Type 0 where
  pub counter : Counter
  pub among : IsCounter old counter
  pub ruled : IsRuled result (opens_as knows blocks size key old.reads counter)
  pub still : result ≢ Err Failed → OnErr result (IsCounter new counter)

-- at each of these counters a header that counts has at most the sequence `high`
abbrev pub OpensBelow : (ℕ → Bool) → Key → Image → ℕ → ℕ → Type 0
OpensBelow knows key image low high =
    (n : ℕ) (found : Found) → low ≤ n → n ≤ high
    → opening_of knows key image n ≡ Ok (Some found) → found.header.sequence ≤ high

-- the sequence of a board: 0 where it is blank
abbrev pub sequence_of : Option Header → Sequence
sequence_of None = 0
sequence_of (Some header) = header.sequence

-- the counter is this and nothing else
pub record IsSettledAt (n : ℕ) (m : Moment) : Type 0 where
  pub counter : m.counter ≡ n
  pub slack : m.slack ≡ 0

-- an image that opens is refused as a rollback where the counter is above its sequence
abbrev pub RefusesOlder : (ℕ → Bool) → ℕ → ℕ → Key → Moment → Result (Option Header) OpenAnswer → Type 0
RefusesOlder knows blocks size key m result =
    (n c : ℕ) (found : Found) → opens_as knows blocks size key m.reads n ≡ Ok (Some found)
    → IsSettledAt c m → found.header.sequence < c
    → result ≢ Err Failed → result ≡ Err (Rollback found.header.sequence c)
