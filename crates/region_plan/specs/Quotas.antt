-- A change of a store as a region keeps it, by the quota of the region's layout.
use Rattle.std.specs.Prelude.{ℕ, ◌≤◌, nat_le, Some, Result, Ok, Err, if◌then◌else◌}
use Rattle.store_api.specs.declared.answer.StoreAnswer.{StoreAnswer}
use Rattle.store_api.specs.declared.answer.StoreAnswer.TheVariants.{NoSpace}
use Rattle.store_api.specs.declared.change.Change.{Change}
use Rattle.store_api.specs.declared.object.Object.{Object}
use Rattle.store_api.specs.Limits.{IsIdentifier, IsSecret}
use Rattle.store_api.specs.Stores.{Store, object_at, cost, after_change}
use Rattle.std.specs.Prelude.{◌≡◌}
use Rattle.region_plan.specs.Layout.{Layout, quota_of}
use Rattle.tee_base.specs.Words.{Identifier}

-- a store, unless it costs more than a quota
abbrev pub within : ℕ → Result Store StoreAnswer → Result Store StoreAnswer
within quota (Ok store) = if nat_le (cost store) quota then Ok store else Err NoSpace
within quota (Err refusal) = Err refusal

-- the store after a change, or the first refusal that applies of NotFound, Exists and NoSpace
unfoldable pub change_in : Layout → Store → Change → Result Store StoreAnswer
change_in L store c = within (quota_of L) (after_change store c)

-- each identifier and each secret is within its limit, and the cost within the quota
pub record KeepsWithin (L : Layout) (store : Store) : Type 0 where
  pub paid : cost store ≤ quota_of L
  pub identifiers : (id : Identifier) (o : Object) → object_at store id ≡ Some o → IsIdentifier id
  pub secrets : (id : Identifier) (o : Object) → object_at store id ≡ Some o → IsSecret o.secret
