-- What an object of either sort gives to an operation as its key, and when the store has a part in it.
use Rattle.std.specs.Prelude.{ℕ, ◌≡◌, Bool, true, false, Option, None, Some, Result, Ok, Err, IfOk, OnErr, if◌then◌else◌}
use Rattle.tee_base.specs.declared.bytes.NoMemory.{NoMemory as WantOfMemory}
use Rattle.store_api.specs.declared.answer.StoreAnswer.{StoreAnswer}
use Rattle.store_api.specs.declared.answer.StoreAnswer.TheVariants.{NoMemory}
use Rattle.store_api.specs.Keeping.{CrashLeaves, Keeper, LeavesJust}
use Rattle.store_api.specs.Stores.{Store}
use Rattle.transient_obj.specs.declared.object_key.ObjectKey.{ObjectKey}
use Rattle.object_asks.specs.declared.source.KeySource.{KeySource}
use Rattle.object_asks.specs.declared.source.KeySource.TheVariants.{NoKey, InMemory, InStore}
use Rattle.transient_obj.specs.declared.look.KeyLook.{KeyLook}
use Rattle.transient_obj.specs.declared.look.KeyLook.TheVariants as finds
use Rattle.object_asks.specs.declared.lending.KeyServed.{KeyServed}
use Rattle.object_asks.specs.declared.turn.TurnKind.{TurnKind}
use Rattle.object_asks.specs.declared.turn.TurnKind.TheVariants.{Plain, Lost, Corrupted}
use Rattle.tee_base.specs.declared.codes.Code.{Code}
use Rattle.tee_base.specs.declared.codes.TheConstants.Code.{CORRUPT_OBJECT, STORAGE_NOT_AVAILABLE}
use Rattle.object_asks.specs.Resolutions.{Objects, Serving, Serves, Fails, Damaged, code_of}
use Rattle.object_asks.specs.Serving.{EndsUnchanged, HasStatus, IsKept, IsUndamaged, Meets, SaysChange, ShowsDamage, kind_of, serving_of}
use Rattle.object_asks.specs.Sources.{key_source, stored_key}
use Rattle.tee_base.specs.Words.{HandleNumber, InstanceNumber}

-- how the look for a key goes: it is settled without the store, or comes to it, and if_served is what the store's answer gives
pub data KeyResolution : Type 0 where
  KeySettled : (found : KeyLook) → KeyResolution
  KeyComesToStore : (if_served : KeyLook) → KeyResolution

-- an object that the store hasn't got gives its refusal
abbrev pub found_by : Result ObjectKey StoreAnswer → KeyLook
found_by (Ok key) = finds.Key key
found_by (Err answer) = finds.Refused (code_of answer)

-- misuse where there is no such object or it isn't initialised; the store is lost or damaged for a persistent one alone
abbrev pub key_resolution_of : Store → KeySource → KeyResolution
key_resolution_of store NoKey = KeySettled finds.NoKey
key_resolution_of store (InMemory key) = KeySettled (finds.Key key)
key_resolution_of store (InStore id) = KeyComesToStore (found_by (stored_key store id))

-- how the look goes for the key of the instance's object of this number
abbrev pub key_resolution : Objects → InstanceNumber → HandleNumber → KeyResolution
key_resolution o i object = key_resolution_of o.store (key_source o.held i object)

-- the look comes to the store
abbrev pub key_comes_to_store : KeyResolution → Bool
key_comes_to_store (KeySettled found) = false
key_comes_to_store (KeyComesToStore if_served) = true

-- what comes of it
abbrev pub key_came_of : Serving → Bool → KeyResolution → KeyLook
key_came_of serving lost (KeySettled found) = found
key_came_of Serves lost (KeyComesToStore if_served) = if lost then finds.Refused STORAGE_NOT_AVAILABLE else if_served
key_came_of Fails lost (KeyComesToStore if_served) = finds.Refused STORAGE_NOT_AVAILABLE
key_came_of Damaged lost (KeyComesToStore if_served) = finds.Refused CORRUPT_OBJECT

-- a look in which the store had no part, or served, found this
abbrev pub key_plainly : KeyLook → KeyServed
key_plainly found = record { kind = Plain; found = found }

-- what is told, by what the store's answer gives: nothing at want of memory
abbrev pub key_told : Result ObjectKey StoreAnswer → Option KeyServed
key_told (Ok key) = Some (key_plainly (finds.Key key))
key_told (Err NoMemory) = None
key_told (Err answer) = Some (record { kind = kind_of false answer; found = finds.Refused (code_of answer) })

-- a lost or damaged look gives a refusal
abbrev pub RefusesUnlessPlain : TurnKind → KeyLook → Type 0
RefusesUnlessPlain Plain found = Unit {0}
RefusesUnlessPlain (Lost changes) found = (code : Code) × (found ≡ finds.Refused code)
RefusesUnlessPlain Corrupted found = (code : Code) × (found ≡ finds.Refused code)

module _ {D : Type 0} (K : Keeper D) where
  -- a look that was served, of this resolution; what is kept stays
  pub record IsKeyServed (served : KeyServed) (resolution : KeyResolution) (old new : D) : Type 0 where
    pub outcome : K.has_model old → served.found ≡ key_came_of (serving_of served.kind) (K.status old).lost resolution
    pub same : K.has_model old → K.contents new ≡ K.contents old
    pub refuses : RefusesUnlessPlain served.kind served.found
    -- a lost or damaged look comes to the store
    pub reaches : K.has_model old → Meets served.kind (key_comes_to_store resolution)
    pub change : SaysChange served.kind false
    pub status : HasStatus served.kind (K.status old) (K.status new)
    pub damage : ShowsDamage served.kind (K.damage new)
    pub honest : K.honest old → K.honest new × IsUndamaged served.kind
    pub keeps : IsKept K old new
    pub crash : K.honest old → LeavesJust K old (K.contents old) → CrashLeaves K (K.contents old) old new

  -- it is served, or there is no memory for it; no change is tried
  pub record TellsKey (result : Result KeyServed WantOfMemory) (resolution : KeyResolution) (old new : D) : Type 0 where
    pub served : IfOk result (λ served. IsKeyServed served resolution old new)
    pub tried : (K.status new).change_attempts ≡ (K.status old).change_attempts
    pub want : OnErr result (EndsUnchanged K old new)
