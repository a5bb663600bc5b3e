-- The asks about keys in memory: one definition for each, with its misuse first, then its refusals in their order, then its answer
-- (TEE Internal Core API 1.3, section 5.6); and what an object of either sort gives to an operation.
use Rattle.std.specs.Prelude.{ℕ, ◌/◌, ◌==◌, nat_le, nat_lt, Bool, not, ◌&&◌, List, Option, None, Some, is_some, Result, Ok, Err, if◌then◌else◌, length, bit_and}
use Rattle.tee_base.specs.KeySizes.{size_fits}
use Rattle.tee_base.specs.declared.codes.TheConstants.Code.{BAD_PARAMETERS, BUSY, ITEM_NOT_FOUND, NOT_SUPPORTED}
use Rattle.tee_base.specs.declared.keys.TheConstants.{KIND_DATA, USAGE_EXTRACTABLE}
use Rattle.app_api.specs.declared.ask.Answer.TheVariants as answers
use Rattle.store_api.specs.declared.answer.StoreAnswer.{StoreAnswer}
use Rattle.transient_obj.specs.declared.answer.KeyAnswer.{KeyAnswer}
use Rattle.transient_obj.specs.declared.answer.KeyAnswer.TheVariants as refusals
use Rattle.transient_obj.specs.declared.object_key.ObjectKey.{ObjectKey}
use Rattle.transient_obj.specs.Keys.{Key, allocate_answer, with_secret_of, copy_answer, populate_answer, key_with_secret, with_usages, without_secret}
use Rattle.handle_table.specs.declared.handle.Handle.{Handle}
use Rattle.handle_table.specs.declared.handle.Handle.TheVariants.{Persistent, Transient}
use Rattle.handle_table.specs.Handles.{free_number, is_full}
use Rattle.object_asks.specs.declared.source.KeySource.{KeySource}
use Rattle.object_asks.specs.declared.source.KeySource.TheVariants.{NoKey, InMemory, InStore}
use Rattle.object_asks.specs.Resolutions.{Outcome, Answered, Panicked, Resolution, Settled, ComesToStore, Objects, code_of, success, with_held, is_too_much, outcome_in, refusal_with, without_store}
use Rattle.object_asks.specs.Handles.{without_rename}
use Rattle.object_asks.specs.Held.{Held, key_added, key_set, transient_at}
use Rattle.object_asks.specs.Sources.{key_source, stored_key}
use Rattle.tee_base.specs.Words.{HandleNumber, InstanceNumber}

-- KeyNew
abbrev pub new_key_by : Held → InstanceNumber → Result Key KeyAnswer → Outcome Held
new_key_by h i (Err answer) = refusal_with h NOT_SUPPORTED
new_key_by h i (Ok key) =
    if is_full (without_rename h.handles) i then refusal_with h BUSY
    else Answered (key_added h i key) (answers.Number (free_number h.handles i))

-- KeyNew of this kind and this greatest size
abbrev pub new_key : Held → InstanceNumber → ℕ → ℕ → Outcome Held
new_key h i kind max_bits = new_key_by h i (allocate_answer kind max_bits)

-- KeyPopulate: not initialised; the secret fits
abbrev pub populated_by : Held → InstanceNumber → HandleNumber → Key → Result (Unit {0}) KeyAnswer → Outcome Held
populated_by h i object after (Ok nothing) = success (key_set h i object after)
populated_by h i object after (Err refusals.BadParameters) = refusal_with h BAD_PARAMETERS
populated_by h i object after (Err answer) = Panicked

-- KeyPopulate of the key that is there; it is misuse where there is none
abbrev pub populate_on : Held → InstanceNumber → HandleNumber → List ℕ → Option Key → Outcome Held
populate_on h i object secret None = Panicked
populate_on h i object secret (Some key) = populated_by h i object (key_with_secret key secret) (populate_answer key secret)

-- KeyReset
abbrev pub reset_key : Held → InstanceNumber → HandleNumber → Option Key → Outcome Held
reset_key h i object None = Panicked
reset_key h i object (Some key) = success (key_set h i object (without_secret key))

-- KeySecret: an object of the kind DATA has none, and there is no misuse of one; any other secret may be told where it is extractable
abbrev pub is_extractable : ℕ → Bool
is_extractable usage = not (bit_and usage USAGE_EXTRACTABLE == 0)

-- what KeySecret answers where there is room for so many bytes
abbrev pub secret_told : {S : Type 0} → S → ℕ → ObjectKey → Outcome S
secret_told s room key =
    if key.kind == KIND_DATA then refusal_with s ITEM_NOT_FOUND
    else if not (is_extractable key.usage) then Panicked
    else if nat_lt room (length key.secret) then Answered s (answers.Short (length key.secret))
    else Answered s (answers.Content key.secret)

-- what KeySecret answers by what the store's answer gives
abbrev pub secret_by : Objects → ℕ → Result ObjectKey StoreAnswer → Outcome Objects
secret_by o room (Err answer) = refusal_with o (code_of answer)
secret_by o room (Ok key) = secret_told o room key

-- how KeySecret goes on an object of this source
abbrev pub secret_from : Objects → ℕ → KeySource → Resolution Objects
secret_from o room NoKey = Settled Panicked
secret_from o room (InMemory key) = Settled (secret_told o room key)
secret_from o room (InStore id) = ComesToStore o (secret_by o room (stored_key o.store id))

-- how KeySecret goes: more room than an ask may want is misuse
abbrev pub secret_resolution : Objects → InstanceNumber → HandleNumber → ℕ → Resolution Objects
secret_resolution o i object room =
    if is_too_much room then Settled Panicked else secret_from o room (key_source o.held i object)

-- KeyCopy: to isn't initialised, of the same kind, and large enough
abbrev pub copied_by : Held → InstanceNumber → ℕ → Key → Result (Unit {0}) KeyAnswer → Outcome Held
copied_by h i to after (Ok nothing) = success (key_set h i to after)
copied_by h i to after (Err answer) = Panicked

-- KeyCopy: the key has the other's usage and secret
abbrev pub copied_from : Held → InstanceNumber → ℕ → Key → ObjectKey → Outcome Held
copied_from h i to key from = copied_by h i to (with_secret_of key from.usage from.secret) (copy_answer key from.kind from.secret)

-- KeyCopy by what the store's answer gives
abbrev pub copied_in : Objects → InstanceNumber → ℕ → Key → Result ObjectKey StoreAnswer → Outcome Objects
copied_in o i to key (Err answer) = refusal_with o (code_of answer)
copied_in o i to key (Ok from) = outcome_in (with_held o) (copied_from o.held i to key from)

-- how KeyCopy goes from an object of this source
abbrev pub copy_from : Objects → InstanceNumber → ℕ → Key → KeySource → Resolution Objects
copy_from o i to key NoKey = Settled Panicked
copy_from o i to key (InMemory from) = without_store o (copied_from o.held i to key from)
copy_from o i to key (InStore id) = ComesToStore o (copied_in o i to key (stored_key o.store id))

-- how KeyCopy goes to the key that is there: it is misuse where there is none, or an initialised one
abbrev pub copy_to : Objects → InstanceNumber → ℕ → ℕ → Option Key → Resolution Objects
copy_to o i to from None = Settled Panicked
copy_to o i to from (Some key) = if is_some key.secret then Settled Panicked else copy_from o i to key (key_source o.held i from)

-- how KeyCopy goes between the instance's objects of these numbers
abbrev pub copy_resolution : Objects → InstanceNumber → ℕ → ℕ → Resolution Objects
copy_resolution o i to from = copy_to o i to from (transient_at o.held i to)

-- KeyRestrict: its usages among these
abbrev pub restrict_key : Held → InstanceNumber → HandleNumber → ℕ → Option Key → Outcome Held
restrict_key h i object usage None = Panicked
restrict_key h i object usage (Some key) = success (key_set h i object (with_usages key usage))

-- KeyRestrict on this handle: one on a persistent object is refused
abbrev pub restrict_on : Held → InstanceNumber → HandleNumber → ℕ → Option Handle → Outcome Held
restrict_on h i object usage None = Panicked
restrict_on h i object usage (Some (Persistent id flags position)) = refusal_with h NOT_SUPPORTED
restrict_on h i object usage (Some Transient) = restrict_key h i object usage (transient_at h i object)

-- KeyGenerate: not initialised; the size fits the kind and isn't above the greatest. So many bytes are taken only then
abbrev pub fits_key : Key → ℕ → Bool
fits_key key bits = not (is_some key.secret) && size_fits key.kind bits && nat_le bits key.max_bits

-- how many random bytes the key that is there is made of, if it is made
abbrev pub wanted_by : ℕ → Option Key → Option ℕ
wanted_by bits None = None
wanted_by bits (Some key) = if fits_key key bits then Some (bits / 8) else None

-- how many random bytes the instance's key of this number is made of, if it is made
abbrev pub random_wanted : Held → InstanceNumber → HandleNumber → ℕ → Option ℕ
random_wanted h i object bits = wanted_by bits (transient_at h i object)

-- what is held when the key that is there has this secret
abbrev pub generated_on : Held → InstanceNumber → HandleNumber → List ℕ → Option Key → Held
generated_on h i object secret None = h
generated_on h i object secret (Some key) = key_set h i object (key_with_secret key secret)

-- what is held when the instance's key of this number has this secret
abbrev pub with_secret : Held → InstanceNumber → HandleNumber → List ℕ → Held
with_secret h i object secret = generated_on h i object secret (transient_at h i object)

-- random gives the next so many random bytes
abbrev pub generated_of : Objects → InstanceNumber → HandleNumber → (ℕ → List ℕ) → Option ℕ → Resolution Objects
generated_of o i object random None = Settled Panicked
generated_of o i object random (Some n) = Settled (success (with_held o (with_secret o.held i object (random n))))

-- how KeyGenerate goes
abbrev pub generate_resolution : Objects → InstanceNumber → HandleNumber → ℕ → (ℕ → List ℕ) → Resolution Objects
generate_resolution o i object bits random = generated_of o i object random (random_wanted o.held i object bits)
