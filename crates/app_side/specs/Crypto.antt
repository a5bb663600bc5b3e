-- What is told and kept of asks about operations and random bytes.
use Rattle.std.specs.Prelude.{ℕ, ◌≡◌, Option, None, Some, Result, IfOk, OnErr}
use Rattle.tee_base.specs.declared.bytes.NoMemory.{NoMemory}
use Rattle.app_api.specs.declared.ask.Ask.{Ask}
use Rattle.app_api.specs.declared.ask.Ask.TheVariants as asked
use Rattle.app_api.specs.declared.ask.Answer.TheVariants as answers
use Rattle.rand_chacha.specs.ChaCha.{ChaCha}
use Rattle.crypto_ops.specs.Random.{random_from}
use Rattle.object_asks.specs.Held.{Held}
use Rattle.object_asks.specs.Keys.{with_secret, random_wanted}
use Rattle.object_asks.specs.Serving.{plainly}
use Rattle.object_asks.specs.declared.outcome.Outcome.{Outcome}
use Rattle.object_asks.specs.declared.outcome.Outcome.TheVariants as outcomes
use Rattle.object_asks.specs.declared.outcome.Served.{Served}
use Rattle.operation_asks.specs.Kept.{state_of}
use Rattle.operation_asks.specs.declared.outcome.Outcome.{Outcome as Told}
use Rattle.operation_asks.specs.declared.outcome.Outcome.TheVariants as told
use Rattle.alone.specs.Crypto.{drawn_for}
use Rattle.app_side.specs.declared.side.AppSide.{AppSide}
use Rattle.tee_base.specs.Words.{HandleNumber, InstanceNumber}

-- what comes of an ask, as its family tells it
abbrev pub outcome_of : Told → Outcome
outcome_of (told.Answered answer) = outcomes.Answered answer
outcome_of told.Panicked = outcomes.Panicked

-- nothing is another, but that the operations were recorded anew
pub record IsAsBefore {A : Type 0} (before after : AppSide A) : Type 0 where
  pub state : state_of after.operations ≡ state_of before.operations
  pub rest : after ≡ record before { operations = after.operations }

-- a key that is made of so many bytes: without them it isn't
abbrev pub told_of_key : Option ℕ → Served
told_of_key None = plainly outcomes.Panicked
told_of_key (Some count) = plainly (outcomes.Answered answers.Done)

-- what is held then
abbrev pub held_by : Held → InstanceNumber → HandleNumber → ChaCha → Option ℕ → Held
held_by h i object random None = h
held_by h i object random (Some count) = with_secret h i object (random_from random count)

-- it was made as stated
pub record IsMade {A : Type 0} (i object bits : ℕ) (done : Served) (before after : AppSide A) : Type 0 where
  pub told : done ≡ told_of_key (random_wanted before.held i object bits)
  pub state : state_of after.operations ≡ drawn_for (state_of before.operations) (random_wanted before.held i object bits)
  pub rest : after ≡ record before {
    held = held_by before.held i object (state_of before.operations).random (random_wanted before.held i object bits);
    operations = after.operations;
  }

-- so was what an ask for a key wants; any other panics
abbrev pub IsGenerated : {A : Type 0} → InstanceNumber → Ask → Served → AppSide A → AppSide A → Type 0
IsGenerated i (asked.KeyGenerate object bits) done before after = IsMade i object bits done before after
IsGenerated i ask done before after = (done ≡ plainly outcomes.Panicked) × (after ≡ before)

-- it was, or there was no memory for it
pub record Generates {A : Type 0} (i : InstanceNumber) (ask : Ask) (result : Result Served NoMemory) (before after : AppSide A) : Type 0 where
  pub made : IfOk result (λ done. IsGenerated i ask done before after)
  pub want : OnErr result (IsAsBefore before after)
