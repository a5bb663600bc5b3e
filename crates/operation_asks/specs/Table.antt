-- The operations of one application, of all its instances, by their numbers (TEE Internal Core API 1.3, section 6.2).
use Rattle.std.specs.Prelude.{ℕ, ◌==◌, nat_le, Bool, not, ◌&&◌, List, [], ◌∷◌, ◌++◌, Option, option_map, if◌then◌else◌, find, filter, map, count_by}
use Rattle.tee_base.specs.Numbers.{lowest_free}
use Rattle.tee_base.specs.declared.limits.TheConstants.{MAX_CRYPTO_OPERATIONS}
use Rattle.crypto_ops.specs.Operations.{CryptoOperation}
use Rattle.tee_base.specs.Words.{InstanceNumber}

-- an operation with its instance and its number
pub record NumberedOperation : Type 0 where
  pub instance : InstanceNumber
  pub number : ℕ
  pub operation : CryptoOperation

-- the operation is of this instance
abbrev pub is_of : InstanceNumber → NumberedOperation → Bool
is_of instance o = o.instance == instance

-- the operation is of this instance and has this number
abbrev pub is_at : InstanceNumber → ℕ → NumberedOperation → Bool
is_at instance number o = (o.instance == instance) && (o.number == number)

-- the instance's operation of this number, where it has one
abbrev pub operation_at : List NumberedOperation → InstanceNumber → ℕ → Option CryptoOperation
operation_at operations instance number = option_map (λ o. o.operation) (find (is_at instance number) operations)

-- the instance has as many operations as it may have
abbrev pub is_full : List NumberedOperation → InstanceNumber → Bool
is_full operations instance = nat_le MAX_CRYPTO_OPERATIONS (count_by (is_of instance) operations)

-- the lowest number of the instance that is free
abbrev pub free_number : List NumberedOperation → InstanceNumber → ℕ
free_number operations instance = lowest_free (map (λ o. o.number) (filter (is_of instance) operations))

-- a new operation of the instance, under that number
abbrev pub with_numbered : List NumberedOperation → InstanceNumber → CryptoOperation → List NumberedOperation
with_numbered operations instance operation =
    operations ++ record { instance = instance; number = free_number operations instance; operation = operation } ∷ []

-- the instance's operation of this number is this one now
abbrev pub with_changed : InstanceNumber → ℕ → CryptoOperation → List NumberedOperation → List NumberedOperation
with_changed instance number operation [] = []
with_changed instance number operation (o ∷ os) =
    if is_at instance number o then record o { operation = operation } ∷ os
    else o ∷ with_changed instance number operation os

-- without the instance's operation of this number
abbrev pub without_numbered : List NumberedOperation → InstanceNumber → ℕ → List NumberedOperation
without_numbered operations instance number = filter (λ o. not (is_at instance number o)) operations

-- without the operations of the instance
abbrev pub all_freed : List NumberedOperation → InstanceNumber → List NumberedOperation
all_freed operations instance = filter (λ o. not (is_of instance o)) operations
