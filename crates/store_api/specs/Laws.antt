-- What each change keeps.
use Rattle.std.specs.Prelude.{ℕ, ◌≡◌, ◌⊎◌, List, IfOk}
use Rattle.store_api.specs.declared.change.Change.{Change}
use Rattle.store_api.specs.declared.change.Change.TheVariants.{Put, Delete, Rename, Write, Truncate}
use Rattle.store_api.specs.Limits.{IsChange, IsWithinLimits}
use Rattle.store_api.specs.Stores.{Store, object_at, change}

-- the change is about this identifier
abbrev pub Names : Change → List ℕ → Type 0
Names (Put id kind usage secret content overwrite) q = q ≡ id
Names (Delete id) q = q ≡ id
Names (Rename id to) q = (q ≡ id) ⊎ (q ≡ to)
Names (Write id at bytes) q = q ≡ id
Names (Truncate id n) q = q ≡ id

-- a change within its limits leaves a store within the limits
abbrev pub KeepsLimits : Store → Change → Type 0
KeepsLimits store c = IsWithinLimits store → IsChange c → IfOk (change store c) (λ after. IsWithinLimits after)

-- a change leaves the object of every identifier that it isn't about
abbrev pub LeavesOthers : Store → Change → Type 0
LeavesOthers store c = (q : List ℕ) → ¬ (Names c q) → IfOk (change store c) (λ after. object_at after q ≡ object_at store q)
