-- How the objects of a store in memory lie in an ordered map.
use Rattle.std.specs.Prelude.{Option, None, Some, length, Result, Ok, Err, ℕ, ◌≡◌, T, List, map}
use Rattle.std.specs.Ordering.{nat_cmp}
use Rattle.std.specs.Cmp.Lexicographic.{slice_cmp}
use Rattle.std.specs.FinMap as finite
use Rattle.std.specs.Global.{Vec}
use Rattle.store_api.specs.declared.object.Object.{Object}
use Rattle.store_api.specs.declared.answer.StoreAnswer.{StoreAnswer}
use Rattle.store_api.specs.declared.answer.StoreAnswer.TheVariants.{NotFound, Exists, NoSpace, Lost, Failed, Corrupt, Garbled, NoMemory}
use Rattle.store_api.specs.Stores.{Store, cost, blocks_for}
use Rattle.store_api.specs.Limits.{IsWithinLimits}

-- the entries under the bytes of their identifiers
abbrev pub by_identifier : List (Vec ℕ × Object) → List (List ℕ × Object)
by_identifier entries = map (λ e. (e.0.items, e.1)) entries

-- the store that these entries are, in ascending order of their identifiers
abbrev pub store_of : List (Vec ℕ × Object) → Store
store_of entries = finite.from_sorted (by_identifier entries)

-- the identifiers ascend, what the objects cost is noted, and all is within the limits
pub record AreKept (entries : List (Vec ℕ × Object)) (used : ℕ) : Type 0 where
  pub sorted : T (finite.is_sorted (slice_cmp nat_cmp) (by_identifier entries))
  pub paid : used ≡ cost (store_of entries)
  pub limits : IsWithinLimits (store_of entries)

-- what a change answers and leaves, where this is the stated new store or refusal: it is done, or refused as stated, or finds no memory
abbrev pub Changes : {A : Type 0} → Result A StoreAnswer → Result Store StoreAnswer → Store → Store → Type 0
Changes (Ok done) stated old new = stated ≡ Ok new
Changes (Err NotFound) stated old new = (stated ≡ Err NotFound) × (new ≡ old)
Changes (Err Exists) stated old new = (stated ≡ Err Exists) × (new ≡ old)
Changes (Err NoSpace) stated old new = (stated ≡ Err NoSpace) × (new ≡ old)
Changes (Err NoMemory) stated old new = new ≡ old
Changes (Err Lost) stated old new = ⊥
Changes (Err Failed) stated old new = ⊥
Changes (Err (Corrupt tags)) stated old new = ⊥
Changes (Err (Garbled leaf)) stated old new = ⊥

-- what an object costs, if there is one
abbrev pub blocks_at : Option Object → ℕ
blocks_at None = 0
blocks_at (Some o) = blocks_for (length o.content)
