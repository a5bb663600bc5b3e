-- What a value of the program means: an operation.
use Rattle.std.specs.Prelude.{◌≡◌, true, Result, Ok, Err}
use Rattle.aes_modes.specs.Stream as streams
use Rattle.ae_modes.specs.Code as codes_of
use Rattle.ae_modes.specs.Represents as ae
use Rattle.mac_digest.specs.Digester.{HoldsMessage}
use Rattle.mac_digest.specs.Mac.{HoldsKeyedMessage}
use Rattle.crypto_ops.specs.Algorithms.{is_cipher, is_ae, is_digest, hash_of}
use Rattle.crypto_ops.specs.Operations.{CryptoOperation, Initial, is_active, message_of, key_bytes, conversion_of, ae_message, KeyFits}
use Rattle.crypto_ops.specs.declared.algorithm.Algorithm.TheVariants as algorithms
use Rattle.crypto_ops.specs.declared.answer.OpAnswer.{OpAnswer}
use Rattle.crypto_ops.specs.declared.operation.Operation.{Operation}
use Rattle.crypto_ops.specs.declared.operation.State.{State}
use Rattle.crypto_ops.specs.declared.operation.State.TheVariants as states

-- what stands in the place of the message has taken all of it
abbrev pub Serves : State → CryptoOperation → Type 0
Serves states.Initial op = op.progress ≡ Initial
Serves (states.Cipher stream) op =
    (is_cipher op.algorithm ≡ true) × (is_active op.progress ≡ true) × streams.Represents stream (conversion_of op)
Serves (states.Gcm gcm) op =
    (is_ae op.algorithm ≡ true) × (is_active op.progress ≡ true) × ae.Represents gcm (ae_message op)
Serves (states.Mac mac) op =
    (op.algorithm ≡ algorithms.Mac (hash_of op.algorithm)) × (is_active op.progress ≡ true)
    × HoldsKeyedMessage mac (hash_of op.algorithm) (key_bytes op.key) (message_of op.progress)
Serves (states.Cmac code) op =
    (op.algorithm ≡ algorithms.Cmac) × (is_active op.progress ≡ true)
    × codes_of.HoldsMessage code (key_bytes op.key) (message_of op.progress)
Serves (states.Digest digester) op =
    (is_digest op.algorithm ≡ true) × (is_active op.progress ≡ true)
    × HoldsMessage digester (hash_of op.algorithm) (message_of op.progress)

-- the value is this operation
pub record Represents (value : Operation) (op : CryptoOperation) : Type 0 where
  pub algorithm_is : value.algorithm ≡ op.algorithm
  pub max_bits_is : value.max_bits ≡ op.max_bits
  pub key_is : value.key ≡ op.key
  pub serves : Serves value.state op
  pub key_fits : KeyFits op.algorithm op.max_bits op.key

-- a new value is the stated operation, or refused as stated
abbrev pub IsAllocated : Result Operation OpAnswer → Result CryptoOperation OpAnswer → Type 0
IsAllocated (Ok value) (Ok op) = Represents value op
IsAllocated (Err answer) (Err stated) = answer ≡ stated
IsAllocated (Ok value) (Err stated) = ⊥
IsAllocated (Err answer) (Ok op) = ⊥
