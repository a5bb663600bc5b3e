-- The asks about operations and random bytes: one definition for the family, in it one for each ask, with its misuse first,
-- then its refusals in their order, then its answer (TEE Internal Core API 1.3, chapter 6 and section 6.9).
use Rattle.std.specs.Prelude.{ℕ, ◌==◌, not, List, [], Option, None, Some, Result, Ok, Err, if◌then◌else◌}
use Rattle.tee_base.specs.declared.codes.TheConstants.Code.{BUSY}
use Rattle.app_api.specs.declared.ask.Ask.{Ask}
use Rattle.app_api.specs.declared.ask.Ask.TheVariants as asked
use Rattle.app_api.specs.declared.ask.Answer.TheVariants as answers
use Rattle.rand_chacha.specs.ChaCha.{ChaCha}
use Rattle.transient_obj.specs.declared.object_key.ObjectKey.{ObjectKey}
use Rattle.crypto_ops.specs.declared.answer.OpAnswer.{OpAnswer}
use Rattle.crypto_ops.specs.Operations.{CryptoOperation, allocate_answer, may_change_key, without_key, with_key, set_key_answer, copy_answer, with_copy_of, is_too_much}
use Rattle.crypto_ops.specs.Random.{stream_at, random_from, stream_after}
use Rattle.transient_obj.specs.declared.look.KeyLook.{KeyLook}
use Rattle.transient_obj.specs.declared.look.KeyLook.TheVariants.{Key, NoKey, Refused}
use Rattle.operation_asks.specs.Effects.{Effect, answer_effect, done_effect, refusal_effect, panic_effect, effect_in, told_refusal, done_by}
use Rattle.operation_asks.specs.OneOperation.{one_effect}
use Rattle.operation_asks.specs.Table.{NumberedOperation, operation_at, is_full, free_number, with_numbered, with_changed, without_numbered, all_freed}
use Rattle.tee_base.specs.Words.{HandleNumber, InstanceNumber}

-- all that an ask about operations touches: the operations of all instances, and the random stream of the application
pub record CryptoState : Type 0 where
  pub operations : List NumberedOperation
  pub random : ChaCha

-- in a new boot: no operations, and the stream at its first word
abbrev pub no_operations : List ℕ → ℕ → ℕ → CryptoState
no_operations seed application boot = record { operations = []; random = stream_at seed application boot 0 }

-- how an ask goes: its effect is settled; or the key of this object decides, with which this operation is to be given a key
pub data Resolution (S : Type 0) : Type 0 where
  Settled : (effect : Effect S) → Resolution S
  WantsKey : (op object : ℕ) → Resolution S

-- the same of a larger whole, whose part this is
abbrev pub resolution_in : {S W : Type 0} → (S → W) → Resolution S → Resolution W
resolution_in put (Settled effect) = Settled (effect_in put effect)
resolution_in put (WantsKey op object) = WantsKey op object

-- other operations of the application
abbrev pub with_operations : CryptoState → List NumberedOperation → CryptoState
with_operations s operations = record s { operations = operations }

-- ---- operations come and go

-- OpNew: there is such an algorithm and mode, and the size fits; the instance has fewer operations than it may have
abbrev pub new_by : List NumberedOperation → InstanceNumber → Result CryptoOperation OpAnswer → Effect (List NumberedOperation)
new_by os i (Err answer) = record { told = told_refusal answer; after = os }
new_by os i (Ok operation) =
    if is_full os i then refusal_effect os BUSY else answer_effect (with_numbered os i operation) (answers.Number (free_number os i))

-- OpNew over the numbers that the application gives
abbrev pub new_effect : List NumberedOperation → InstanceNumber → ℕ → ℕ → ℕ → Effect (List NumberedOperation)
new_effect os i alg mode max_bits = new_by os i (allocate_answer alg mode max_bits)

-- OpFree: 0 is no operation, and Done
abbrev pub free_by : List NumberedOperation → InstanceNumber → ℕ → Option CryptoOperation → Effect (List NumberedOperation)
free_by os i op None = panic_effect os
free_by os i op (Some operation) = done_effect (without_numbered os i op)

-- OpFree over the number that the application gives
abbrev pub free_effect : List NumberedOperation → InstanceNumber → ℕ → Effect (List NumberedOperation)
free_effect os i op = if op == 0 then done_effect os else free_by os i op (operation_at os i op)

-- ---- one operation

-- an ask on the instance's operation of this number
abbrev pub on_found : List NumberedOperation → InstanceNumber → ℕ → Ask → Option CryptoOperation → Effect (List NumberedOperation)
on_found os i op ask None = panic_effect os
on_found os i op ask (Some operation) = effect_in (λ o. with_changed i op o os) (one_effect operation ask)

-- an ask on one operation, over the number that the application gives; without such an operation it is misuse
abbrev pub on_operation : List NumberedOperation → InstanceNumber → ℕ → Ask → Effect (List NumberedOperation)
on_operation os i op ask = on_found os i op ask (operation_at os i op)

-- ---- two operations

-- OpCopy: key and state of the one become those of the other
abbrev pub copy_between : List NumberedOperation → InstanceNumber → ℕ → Option CryptoOperation → Option CryptoOperation
    → Effect (List NumberedOperation)
copy_between os i to None source = panic_effect os
copy_between os i to (Some target) None = panic_effect os
copy_between os i to (Some target) (Some source) =
    effect_in (λ o. with_changed i to o os) (done_by (copy_answer target source) target (with_copy_of target source))

-- OpCopy over the numbers that the application gives
abbrev pub copy_effect : List NumberedOperation → InstanceNumber → ℕ → ℕ → Effect (List NumberedOperation)
copy_effect os i to from = copy_between os i to (operation_at os i to) (operation_at os i from)

-- ---- an operation and the key of an object

-- OpSetKey before an object is looked at: the operation is no digest and not active; object 0 takes the key away, and the key of
-- any other decides
abbrev pub set_key_on : List NumberedOperation → InstanceNumber → ℕ → HandleNumber → Option CryptoOperation → Resolution (List NumberedOperation)
set_key_on os i op object None = Settled (panic_effect os)
set_key_on os i op object (Some o) =
    if not (may_change_key o) then Settled (panic_effect os)
    else if object == 0 then Settled (done_effect (with_changed i op (without_key o) os))
    else WantsKey op object

-- OpSetKey before an object is looked at, over the number that the application gives
abbrev pub set_key_resolution : List NumberedOperation → InstanceNumber → ℕ → HandleNumber → Resolution (List NumberedOperation)
set_key_resolution os i op object = set_key_on os i op object (operation_at os i op)

-- OpSetKey over the key that the object gives: of the operation's kind, of a size that fits and isn't above the greatest, with the
-- usage that the mode needs
abbrev pub key_set : List NumberedOperation → InstanceNumber → ℕ → ObjectKey → Option CryptoOperation
    → Effect (List NumberedOperation)
key_set os i op key None = panic_effect os
key_set os i op key (Some o) =
    effect_in (λ o. with_changed i op o os) (done_by (set_key_answer o key.kind key.usage key.secret) o (with_key o key.secret))

-- OpSetKey over what was found at the object: a key, no key, which is misuse, or a refusal
abbrev pub set_key_effect : List NumberedOperation → InstanceNumber → ℕ → KeyLook → Effect (List NumberedOperation)
set_key_effect os i op (Key key) = key_set os i op key (operation_at os i op)
set_key_effect os i op NoKey = panic_effect os
set_key_effect os i op (Refused code) = refusal_effect os code

-- ---- random bytes

-- Random: the next bytes of the application's stream
abbrev pub random_effect : ChaCha → ℕ → Effect ChaCha
random_effect stream count =
    if is_too_much count then panic_effect stream
    else answer_effect (stream_after stream count) (answers.Content (random_from stream count))

-- ---- the family

-- how an ask goes that touches operations alone
abbrev pub of_operations : CryptoState → Effect (List NumberedOperation) → Resolution CryptoState
of_operations s effect = Settled (effect_in (with_operations s) effect)

-- how an ask goes that touches the random stream alone
abbrev pub of_random : CryptoState → Effect ChaCha → Resolution CryptoState
of_random s effect = Settled (effect_in (λ random. record s { random = random }) effect)

-- how an ask goes; an ask of another family doesn't come here
unfoldable pub operation_resolution : CryptoState → InstanceNumber → Ask → Resolution CryptoState
operation_resolution s i (asked.Random count) = of_random s (random_effect s.random count)
operation_resolution s i (asked.OpNew alg mode max_bits) = of_operations s (new_effect s.operations i alg mode max_bits)
operation_resolution s i (asked.OpFree op) = of_operations s (free_effect s.operations i op)
operation_resolution s i (asked.OpInfo op) = of_operations s (on_operation s.operations i op (asked.OpInfo op))
operation_resolution s i (asked.OpReset op) = of_operations s (on_operation s.operations i op (asked.OpReset op))
operation_resolution s i (asked.OpSetKey op object) = resolution_in (with_operations s) (set_key_resolution s.operations i op object)
operation_resolution s i (asked.OpCopy to from) = of_operations s (copy_effect s.operations i to from)
operation_resolution s i (asked.CipherInit op iv) = of_operations s (on_operation s.operations i op (asked.CipherInit op iv))
operation_resolution s i (asked.CipherUpdate op bytes room) =
    of_operations s (on_operation s.operations i op (asked.CipherUpdate op bytes room))
operation_resolution s i (asked.CipherFinal op bytes room) =
    of_operations s (on_operation s.operations i op (asked.CipherFinal op bytes room))
operation_resolution s i (asked.MacInit op) = of_operations s (on_operation s.operations i op (asked.MacInit op))
operation_resolution s i (asked.MacUpdate op bytes) = of_operations s (on_operation s.operations i op (asked.MacUpdate op bytes))
operation_resolution s i (asked.MacFinal op bytes room) =
    of_operations s (on_operation s.operations i op (asked.MacFinal op bytes room))
operation_resolution s i (asked.MacCompare op bytes mac) =
    of_operations s (on_operation s.operations i op (asked.MacCompare op bytes mac))
operation_resolution s i (asked.DigestUpdate op bytes) =
    of_operations s (on_operation s.operations i op (asked.DigestUpdate op bytes))
operation_resolution s i (asked.DigestFinal op bytes room) =
    of_operations s (on_operation s.operations i op (asked.DigestFinal op bytes room))
operation_resolution s i (asked.AeInit op nonce tag_bits) =
    of_operations s (on_operation s.operations i op (asked.AeInit op nonce tag_bits))
operation_resolution s i (asked.AeAad op bytes) = of_operations s (on_operation s.operations i op (asked.AeAad op bytes))
operation_resolution s i (asked.AeUpdate op bytes room) =
    of_operations s (on_operation s.operations i op (asked.AeUpdate op bytes room))
operation_resolution s i (asked.AeSeal op bytes room tag_room) =
    of_operations s (on_operation s.operations i op (asked.AeSeal op bytes room tag_room))
operation_resolution s i (asked.AeOpen op bytes room tag) =
    of_operations s (on_operation s.operations i op (asked.AeOpen op bytes room tag))
operation_resolution s i ask = Settled (panic_effect s)

-- what comes of a resolution, where key_of is what the object of a number gives
abbrev pub came_of : CryptoState → InstanceNumber → (ℕ → KeyLook) → Resolution CryptoState → Effect CryptoState
came_of s i key_of (Settled effect) = effect
came_of s i key_of (WantsKey op object) = effect_in (with_operations s) (set_key_effect s.operations i op (key_of object))

-- an ask as a whole
abbrev pub operation_effect : CryptoState → InstanceNumber → (ℕ → KeyLook) → Ask → Effect CryptoState
operation_effect s i key_of ask = came_of s i key_of (operation_resolution s i ask)

-- an instance ends: its operations go
abbrev pub instance_ended : CryptoState → InstanceNumber → CryptoState
instance_ended s i = with_operations s (all_freed s.operations i)
