-- What holds of an application's objects between two events.
use Rattle.std.specs.Prelude.{ℕ, ◌≡◌, ◌<◌, true, List}
use Rattle.store_api.specs.Stores.{has}
use Rattle.object_asks.specs.Resolutions.{Answered, ComesToStore, Resolution, Objects, Outcome, Panicked, Returned, Settled}
use Rattle.object_asks.specs.Held.{AreSole, BelongTogether, ones_on}
use Rattle.tee_base.specs.Words.{Identifier}

-- each identifier that a handle is on is in the store; a handle with ACCESS_WRITE_META is alone on its identifier; each key in memory
-- has its handle, and each handle on an object in memory its key
pub record IsValidObjects (o : Objects) : Type 0 where
  pub stored : (id : Identifier) → 0 < ones_on id o.held.handles → has o.store id ≡ true
  pub sole : AreSole o.held.handles
  pub together : BelongTogether o.held.handles o.held.keys

-- what the outcome leaves meets the condition
abbrev pub Leaves : {S : Type 0} → (S → Type 0) → Outcome S → Type 0
Leaves P (Answered after answer) = P after
Leaves P (Returned code outs) = Unit {0}
Leaves P Panicked = Unit {0}

-- what the resolution leaves meets it, whatever the store does
abbrev pub Goes : {S : Type 0} → (S → Type 0) → Resolution S → Type 0
Goes P (Settled outcome) = Leaves P outcome
Goes P (ComesToStore refused if_served) = P refused × Leaves P if_served
