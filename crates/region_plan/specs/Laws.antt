-- What follows from the definition of a region.
use Rattle.std.specs.Prelude.{ℕ, ◌≡◌, ◌<◌, true, List, Ok, replicate}
use Rattle.tee_base.specs.declared.limits.TheConstants.{BLOCK_BYTES}
use Rattle.store_api.specs.Stores.{Store, cost}
use Rattle.region_plan.specs.Layout.{Layout}
use Rattle.region_plan.specs.Entries.{entry_at, is_inode, is_used, is_well_formed}
use Rattle.region_plan.specs.Quotas.{KeepsWithin}
use Rattle.region_plan.specs.Reading.{IsWhole}
use Rattle.region_plan.specs.Regions.{is_padded, region_of, store_of, used_leaves}
use Rattle.region_plan.specs.declared.entry.TheConstants.{DATA}
use Rattle.tee_base.specs.Words.{RegionLeaves}

-- all leaves are zeros
abbrev pub IsBlank : Layout → RegionLeaves → Type 0
IsBlank L leaves = (i : ℕ) → i < L.leaves → leaves i ≡ replicate BLOCK_BYTES 0

-- two regions have the same map, and the same bytes in each leaf that it has in use
pub record AgreeInUse (L : Layout) (leaves others : ℕ → List ℕ) : Type 0 where
  pub map : (i : ℕ) → i < L.map_leaves → others i ≡ leaves i
  pub used : (i : ℕ) → i < L.leaves → is_used L leaves i ≡ true → others i ≡ leaves i

-- no leaf breaks a rule: no entry of the map, no inode, and no data, which is zeros past the end of its content
pub record KeepRules (L : Layout) (leaves : RegionLeaves) : Type 0 where
  pub map : (i : ℕ) → i < L.leaves → is_well_formed L leaves i ≡ true
  pub inode : (i : ℕ) → i < L.leaves → is_inode L leaves i ≡ true → IsWhole L leaves i
  pub data' : (i : ℕ) → i < L.leaves → (entry_at L leaves i).kind ≡ DATA → is_padded L leaves i ≡ true

-- leaves that break no rule stand for the store of their inodes
abbrev pub StandForInodes : Layout → RegionLeaves → Type 0
StandForInodes L leaves = KeepRules L leaves → region_of L leaves ≡ Ok (store_of L leaves)

-- the store that leaves stand for, where they stand for one, costs as much as there are leaves in use
abbrev pub CostsItsLeaves : Layout → RegionLeaves → Type 0
CostsItsLeaves L leaves = (store : Store) → region_of L leaves ≡ Ok store → cost store ≡ used_leaves L leaves

-- and keeps to the limits of stores, by the quota of the layout
abbrev pub KeepsLimits : Layout → RegionLeaves → Type 0
KeepsLimits L leaves = (store : Store) → region_of L leaves ≡ Ok store → KeepsWithin L store
