-- The last of a list of objects, and one more object behind it.
use Rattle.std.proofs.Common.{◌≡◌, ◌<◌, ◌-◌, ◌∙◌, ℕ, suc, List, [], ◌∷◌, ◌++◌, length, get_or, Option, None, Some, Ok, ap, refl, sym, arith}
use Rattle.store_api.specs.Stores.{Store, next_after}
use Rattle.store_api.specs.declared.object.Listed.{Listed}
use Rattle.inspect.specs.Listings.{AreNext, last_id}

pub last_id-none : (objects : List Listed) → length objects < 1 → None ≡ last_id None objects
unfolding last_id
last_id-none [] few = refl
last_id-none (object ∷ objects) few = absurd (omega arith)

pub last_id-at : (before : Option (List ℕ)) (objects : List Listed) (other : Listed) → 0 < length objects
    → last_id before objects ≡ Some (get_or objects (length objects - 1) other).id
unfolding last_id
last_id-at before [] other some = absurd (omega arith)
last_id-at before (object ∷ []) other some = refl
last_id-at before (object ∷ next ∷ objects) other some =
    let whole : length (object ∷ next ∷ objects) - 1 ≡ suc (length objects) = omega arith in
    let behind : length (next ∷ objects) - 1 ≡ length objects = omega arith in
    last_id-at (Some object.id) (next ∷ objects) other (omega arith)
    ∙ ap (λ (k : ℕ). Some (get_or (next ∷ objects) k other).id) behind
    ∙ sym (ap (λ (k : ℕ). Some (get_or (object ∷ next ∷ objects) k other).id) whole)

pub AreNext-snoc : (store : Store) (before : Option (List ℕ)) (objects : List Listed) (object : Listed)
    → AreNext store before objects → next_after store (last_id before objects) ≡ Ok object
    → AreNext store before (objects ++ object ∷ [])
unfolding last_id AreNext
AreNext-snoc store before [] object all next = (next, tt)
AreNext-snoc store before (first ∷ objects) object (now, all) next =
    (now, AreNext-snoc store (Some first.id) objects object all next)
