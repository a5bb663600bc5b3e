-- The objects of a store, one after another.
use Rattle.std.specs.Prelude.{◌≡◌, ◌<◌, ℕ, List, [], ◌∷◌, length, Option, None, Some, Ok, Err}
use Rattle.tee_base.specs.declared.limits.TheConstants.{LEAVES}
use Rattle.store_api.specs.Stores.{Store, next_after}
use Rattle.store_api.specs.declared.answer.StoreAnswer.TheVariants.{NotFound}
use Rattle.store_api.specs.declared.object.Listed.{Listed}

-- the identifier of the last of these objects, or this one where there is none
unfoldable pub last_id : Option (List ℕ) → List Listed → Option (List ℕ)
last_id before [] = before
last_id before (object ∷ objects) = last_id (Some object.id) objects

-- these objects are the next of the store behind this identifier, or the first of all: none is left out
unfoldable pub AreNext : Store → Option (List ℕ) → List Listed → Type 0
AreNext store before [] = Unit {0}
AreNext store before (object ∷ objects) =
    (next_after store before ≡ Ok object) × AreNext store (Some object.id) objects

-- these are the objects of a store from the first one on: all, where they are fewer than a region has leaves
pub record AreListed (store : Store) (objects : List Listed) : Type 0 where
  pub next : AreNext store None objects
  pub whole : length objects < LEAVES → next_after store (last_id None objects) ≡ Err NotFound
