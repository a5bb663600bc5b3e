-- The layout in use: its leaves and its quota are those of the runtime.
use Rattle.std.proofs.Common.{◌≡◌, ◌≤◌, ℕ, Result, Ok, Err, refl, arith}
use Rattle.tee_base.specs.declared.limits.TheConstants.{LEAVES}
use Rattle.store_api.specs.declared.answer.StoreAnswer.{StoreAnswer}
use Rattle.store_api.specs.declared.change.Change.{Change}
use Rattle.store_api.specs.Limits.{IsWithinLimits}
use Rattle.store_api.specs.Stores.{Store, change, after_change, within_quota}
use Rattle.region_plan.specs.Layout.{layout, quota_of}
use Rattle.region_plan.specs.Quotas.{KeepsWithin, change_in, within}
use Rattle.region_plan.specs.declared.form.Form.TheVariants.{Two}
use Rattle.region_plan.proofs.FormLemmas.{IsLaid, laid_by}
use Rattle.object_dir.specs.Regions.{in_use}

pub laid : IsLaid in_use
laid = laid_by Two

pub leaves_are : in_use.leaves ≡ LEAVES
unfolding layout
leaves_are = refl

-- a volume has them
pub fits : (n : ℕ) → LEAVES ≤ n → in_use.leaves ≤ n
fits n le = omega (arith, le, leaves_are)

-- a change within the quota of the layout is one within that of the runtime
pub change_same : (store : Store) (c : Change) → change_in in_use store c ≡ change store c
unfolding layout change_in change
change_same store c = each (after_change store c)
  where
    each : (r : Result Store StoreAnswer) → within (quota_of in_use) r ≡ within_quota r
    each (Ok after) = refl
    each (Err refusal) = refl

-- and so are the limits
pub limits_same : (store : Store) → KeepsWithin in_use store → IsWithinLimits store
unfolding layout
limits_same store keeps = record { paid = keeps.paid; identifiers = keeps.identifiers; secrets = keeps.secrets }
