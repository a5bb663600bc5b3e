-- Where the kind, the usage and the secret of an object come from: an object of either sort gives them to another, or to an operation.
use Rattle.std.specs.Prelude.{ℕ, ◌==◌, ◌≤◌, Bool, true, false, List, [], Option, None, Some, Result, Ok, Err, if◌then◌else◌, length}
use Rattle.tee_base.specs.declared.keys.TheConstants.{KIND_DATA}
use Rattle.tee_base.specs.declared.limits.TheConstants.{MAX_SECRET_BYTES}
use Rattle.transient_obj.specs.Keys.{Key, every_usage}
use Rattle.transient_obj.specs.declared.object_key.ObjectKey.{ObjectKey}
use Rattle.store_api.specs.declared.answer.StoreAnswer.{StoreAnswer}
use Rattle.store_api.specs.declared.answer.StoreAnswer.TheVariants.{NotFound}
use Rattle.store_api.specs.Limits.{IsIdentifier}
use Rattle.store_api.specs.Stores.{Store, object_at, with_object}
use Rattle.handle_table.specs.declared.handle.Handle.{Handle}
use Rattle.handle_table.specs.declared.handle.Handle.TheVariants.{Persistent, Transient}
use Rattle.handle_table.specs.Handles.{handle_at}
use Rattle.object_asks.specs.declared.source.KeySource.{KeySource}
use Rattle.object_asks.specs.declared.source.KeySource.TheVariants.{NoKey, InMemory, InStore}
use Rattle.object_asks.specs.Handles.{without_rename}
use Rattle.object_asks.specs.Held.{Held, key_at}
use Rattle.tee_base.specs.Words.{HandleNumber, Identifier, InstanceNumber}

-- a key in memory gives them where it is initialised
abbrev pub with_secret : Key → Option (List ℕ) → KeySource
with_secret key None = NoKey
with_secret key (Some secret) = InMemory (record { kind = key.kind; usage = key.usage; secret = secret })

-- where a key that may be there gives them from
abbrev pub memory_source : Option Key → KeySource
memory_source None = NoKey
memory_source (Some key) = with_secret key key.secret

-- a persistent object is always initialised
abbrev pub source_on : Held → InstanceNumber → HandleNumber → Option Handle → KeySource
source_on h i object None = NoKey
source_on h i object (Some Transient) = memory_source (key_at h i object)
source_on h i object (Some (Persistent id flags position)) = InStore id

-- where the instance's object of this number gives them from
abbrev pub key_source : Held → InstanceNumber → HandleNumber → KeySource
key_source h i object = source_on h i object (handle_at (without_rename h.handles) i object)

-- the attributes of a new object: those of the kind DATA without a secret and with every usage, or an object's
abbrev pub attr_source : Held → InstanceNumber → ℕ → KeySource
attr_source h i attr =
    if attr == 0 then InMemory (record { kind = KIND_DATA; usage = every_usage; secret = [] })
    else key_source h i attr

-- nothing gives them
abbrev pub is_no_key : KeySource → Bool
is_no_key NoKey = true
is_no_key (InMemory key) = false
is_no_key (InStore id) = false

-- the identifier, where it is in the store, has at most 64 bytes
abbrev pub HasSource : KeySource → Type 0
HasSource NoKey = Unit {0}
HasSource (InMemory key) = Unit {0}
HasSource (InStore id) = IsIdentifier id

-- what the store has of them
abbrev pub stored_key : Store → Identifier → Result ObjectKey StoreAnswer
stored_key store id = with_object (object_at store id) (λ o. Ok (record { kind = o.kind; usage = o.usage; secret = o.secret }))

-- what a source gives, or why it gives nothing
abbrev pub key_given : Store → KeySource → Result ObjectKey StoreAnswer
key_given store NoKey = Err NotFound
key_given store (InMemory key) = Ok key
key_given store (InStore id) = stored_key store id

-- a secret within its limit
abbrev pub IsObjectKey : ObjectKey → Type 0
IsObjectKey key = length key.secret ≤ MAX_SECRET_BYTES
