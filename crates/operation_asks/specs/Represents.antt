-- What a value of the program means: the operations of an application, and its random stream.
use Rattle.std.specs.Prelude.{ℕ, ◌≡◌, ◌==◌, ◌&&◌, Bool, List}
use Rattle.std.specs.List.{AllZip}
use Rattle.crypto_ops.specs.Represents as operations
use Rattle.operation_asks.specs.declared.outcome.CryptoOutcome.{CryptoOutcome}
use Rattle.operation_asks.specs.declared.outcome.CryptoOutcome.TheVariants as asked
use Rattle.operation_asks.specs.declared.outcome.Outcome.{Outcome}
use Rattle.operation_asks.specs.declared.table.Entry.{Entry}
use Rattle.operation_asks.specs.declared.crypto.Crypto.{Crypto}
use Rattle.operation_asks.specs.Effects.{Effect}
use Rattle.operation_asks.specs.Table.{NumberedOperation}
use Rattle.operation_asks.specs.Asks.{CryptoState, Resolution, Settled, WantsKey}
use Rattle.tee_base.specs.Words.{InstanceNumber}

-- the value is this operation, of this instance and number
pub record IsEntry (value : Entry) (o : NumberedOperation) : Type 0 where
  pub instance_is : value.instance ≡ o.instance
  pub number_is : value.number ≡ o.number
  pub operation_is : operations.Represents value.operation o.operation

-- the values are these operations, in order
abbrev pub AreOperations : List Entry → List NumberedOperation → Type 0
AreOperations values os = AllZip IsEntry values os

-- the value is these operations and this stream
pub record Represents (value : Crypto) (s : CryptoState) : Type 0 where
  pub operations_are : AreOperations value.operations.items s.operations
  pub random_is : value.random ≡ s.random

-- the value is the instance's operation of this number
abbrev pub has_number : InstanceNumber → ℕ → Entry → Bool
has_number instance number value = (value.instance == instance) && (value.number == number)

-- the value is an operation of this instance
abbrev pub has_instance : InstanceNumber → Entry → Bool
has_instance instance value = value.instance == instance

-- it was told as stated, and the value is what the effect leaves
pub record IsEffect {V : Type 0} {S : Type 0} (IsValue : V → S → Type 0) (told : Outcome) (effect : Effect S) (new : V) : Type 0 where
  pub told_is : told ≡ effect.told
  pub leaves : IsValue new effect.after

-- what is told of a resolution
abbrev pub told_by : {S : Type 0} → Resolution S → CryptoOutcome
told_by (Settled effect) = asked.Settled effect.told
told_by (WantsKey op object) = asked.WantsKey op object

-- what it leaves of this state
abbrev pub left_by : {S : Type 0} → S → Resolution S → S
left_by s (Settled effect) = effect.after
left_by s (WantsKey op object) = s

-- it was told as stated, and the value is what the resolution leaves
pub record IsResolution {V : Type 0} {S : Type 0} (IsValue : V → S → Type 0) (told : CryptoOutcome) (resolution : Resolution S) (old : S) (new : V) : Type 0 where
  pub told_is : told ≡ told_by resolution
  pub leaves : IsValue new (left_by old resolution)
