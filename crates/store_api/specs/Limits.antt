-- The limits of identifiers, secrets, reads and changes.
use Rattle.std.specs.Prelude.{ℕ, ◌≡◌, ◌+◌, ◌≤◌, List, Some, length}
use Rattle.tee_base.specs.declared.limits.TheConstants.{MAX_ASK_BYTES, MAX_IDENTIFIER_BYTES, MAX_POSITION, MAX_SECRET_BYTES}
use Rattle.store_api.specs.declared.object.Object.{Object}
use Rattle.store_api.specs.declared.object.Facts.{Facts}
use Rattle.store_api.specs.declared.object.Listed.{Listed}
use Rattle.store_api.specs.declared.change.Change.{Change}
use Rattle.store_api.specs.declared.change.Change.TheVariants.{Put, Delete, Rename, Write, Truncate}
use Rattle.store_api.specs.Stores.{Store, object_at, cost, quota}
use Rattle.tee_base.specs.Words.{Identifier}

-- bytes that may name an object
abbrev pub IsIdentifier : Identifier → Type 0
IsIdentifier id = length id ≤ MAX_IDENTIFIER_BYTES

-- bytes that may be an object's secret
abbrev pub IsSecret : List ℕ → Type 0
IsSecret secret = length secret ≤ MAX_SECRET_BYTES

-- facts that may be told of an object
abbrev pub AreFacts : Facts → Type 0
AreFacts facts = facts.secret ≤ MAX_SECRET_BYTES

-- bytes that a read of so many may give
abbrev pub IsPart : ℕ → List ℕ → Type 0
IsPart count bytes = length bytes ≤ count

-- an object that may be listed
abbrev pub IsListed : Listed → Type 0
IsListed listed = IsIdentifier listed.id × AreFacts listed.facts

-- each identifier and each secret is within its limit, and the cost within the quota
pub record IsWithinLimits (store : Store) : Type 0 where
  pub paid : cost store ≤ quota
  pub identifiers : (id : Identifier) (o : Object) → object_at store id ≡ Some o → IsIdentifier id
  pub secrets : (id : Identifier) (o : Object) → object_at store id ≡ Some o → IsSecret o.secret

-- what a caller has to see to before a change
abbrev pub IsChange : Change → Type 0
IsChange (Put id kind usage secret content overwrite) = IsIdentifier id × IsSecret secret × (length content ≤ MAX_ASK_BYTES)
IsChange (Delete id) = IsIdentifier id
IsChange (Rename id to) = IsIdentifier id × IsIdentifier to
IsChange (Write id at bytes) = IsIdentifier id × (length bytes ≤ MAX_ASK_BYTES) × (at + length bytes ≤ MAX_POSITION)
IsChange (Truncate id n) = IsIdentifier id
