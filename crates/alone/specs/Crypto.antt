-- What comes of an ask about crypto operations or random bytes, or of one for a key that is made of these, in the whole machine
-- (TEE Internal Core API 1.3, sections 5.6.10, 6.2 and 6.9).
use Rattle.std.specs.Prelude.{ℕ, Bool, false, Option, None, Some}
use Rattle.app_api.specs.declared.ask.Ask.{Ask}
use Rattle.app_api.specs.declared.ask.Ask.TheVariants as asked
use Rattle.crypto_ops.specs.Random.{random_from}
use Rattle.object_asks.specs.Asks.{Outcome, Answered, Panicked, Resolution, Settled, ComesToStore, Objects, resolution_in}
use Rattle.object_asks.specs.KeyOf.{KeyResolution, KeySettled, KeyComesToStore, key_comes_to_store, key_resolution}
use Rattle.object_asks.specs.Keys.{generate_resolution, random_wanted}
use Rattle.transient_obj.specs.declared.look.KeyLook.{KeyLook}
use Rattle.operation_asks.specs.Asks.{CryptoState, operation_resolution}
use Rattle.operation_asks.specs.Asks as operations
use Rattle.operation_asks.specs.Effects.{Effect}
use Rattle.operation_asks.specs.Past.{after_draw, key_effect}
use Rattle.operation_asks.specs.declared.outcome.Outcome.{Outcome as Told}
use Rattle.operation_asks.specs.declared.outcome.Outcome.TheVariants as told
use Rattle.alone.specs.Machine.{Machine, objects_of, with_objects}
use Rattle.tee_base.specs.Words.{HandleNumber, InstanceNumber}

-- the machine with other operations and another random stream
abbrev pub with_crypto : {A : Type 0} → Machine A → CryptoState → Machine A
with_crypto m s = record m { crypto = s }

-- what the application is told, and the machine behind it
abbrev pub outcome_by : {A : Type 0} → Machine A → Told → Outcome (Machine A)
outcome_by m (told.Answered answer) = Answered m answer
outcome_by m told.Panicked = Panicked

-- what comes of an effect on operations and stream
abbrev pub outcome_of_effect : {A : Type 0} → Machine A → Effect CryptoState → Outcome (Machine A)
outcome_of_effect m effect = outcome_by (with_crypto m effect.after) effect.told

-- the operation is given the key that was found
abbrev pub key_outcome : {A : Type 0} → Machine A → InstanceNumber → ℕ → KeyLook → Outcome (Machine A)
key_outcome m i op found = outcome_of_effect m (key_effect m.crypto i op found)

-- how that goes: as the look for the key does
abbrev pub keyed_by : {A : Type 0} → Machine A → InstanceNumber → ℕ → KeyResolution → Resolution (Machine A)
keyed_by m i op (KeySettled found) = Settled (key_outcome m i op found)
keyed_by m i op (KeyComesToStore if_served) = ComesToStore m (key_outcome m i op if_served)

-- how an ask about operations or random bytes goes: an object's key is looked for where it decides
abbrev pub operated_by : {A : Type 0} → Machine A → InstanceNumber → operations.Resolution CryptoState → Resolution (Machine A)
operated_by m i (operations.Settled effect) = Settled (outcome_of_effect m effect)
operated_by m i (operations.WantsKey op object) = keyed_by m i op (key_resolution (objects_of m) i object)

-- how such an ask of this instance goes
abbrev pub crypto_resolution : {A : Type 0} → Machine A → InstanceNumber → Ask → Resolution (Machine A)
crypto_resolution m i ask = operated_by m i (operation_resolution m.crypto i ask)

-- such an ask comes to the store
abbrev pub key_reaches : Objects → InstanceNumber → operations.Resolution CryptoState → Bool
key_reaches o i (operations.Settled effect) = false
key_reaches o i (operations.WantsKey op object) = key_comes_to_store (key_resolution o i object)

-- the stream behind the bytes that are wanted
abbrev pub drawn_for : CryptoState → Option ℕ → CryptoState
drawn_for s None = s
drawn_for s (Some count) = after_draw s count

-- KeyGenerate: the key is made of the next bytes of the stream, of which none is taken where it isn't made
abbrev pub key_generate_resolution : {A : Type 0} → Machine A → InstanceNumber → HandleNumber → ℕ → Resolution (Machine A)
key_generate_resolution m i object bits =
    resolution_in (with_objects (with_crypto m (drawn_for m.crypto (random_wanted m.held i object bits))))
    (generate_resolution (objects_of m) i object bits (random_from m.crypto.random))

-- an ask for a key that is made; any other doesn't come here
abbrev pub generation_resolution : {A : Type 0} → Machine A → InstanceNumber → Ask → Resolution (Machine A)
generation_resolution m i (asked.KeyGenerate object bits) = key_generate_resolution m i object bits
generation_resolution m i ask = Settled Panicked
