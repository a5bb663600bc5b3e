-- One region of a volume: what is seen of its leaves, and the store that they stand for.
use Rattle.std.specs.Prelude.{ℕ, ◌≡◌, ◌==◌, List, [], ◌∷◌, Option, None, Some, Result, Ok, Err, if◌then◌else◌}
use Rattle.store_api.specs.Keeping.{Contents, Remains, Rest}
use Rattle.store_api.specs.Stores.{Store, empty_store}
use Rattle.store_api.specs.Foundations.{Foundation}
use Rattle.store_api.specs.Volumes.{Condition, Held, VolumeKeeper}
use Rattle.region_plan.specs.Layout.{Layout, layout}
use Rattle.region_plan.specs.declared.form.Form.TheVariants.{Two}
use Rattle.region_plan.specs.Regions.{region_of}
use Rattle.object_dir.specs.declared.region.Region.{Region}
use Rattle.tee_base.specs.Words.{Leaves}

-- what a region stands on: the name of the reference to its volume and its number are the place, before that of the volume
abbrev pub region_foundation : ℕ → ℕ → Foundation → Foundation
region_foundation name number f = record { place = name ∷ number ∷ f.place; orders = f.orders; ordered = f.ordered }

-- what is known of a region over a volume of this condition
abbrev pub region_condition : ℕ → ℕ → Condition → Condition
region_condition name number c = record { lost = c.lost; faults = c.faults; writes = c.writes; foundation = region_foundation name number c.foundation }

-- the volume of a region, as contracts see it
abbrev pub region_keeper : {V : Type 0} → VolumeKeeper V → VolumeKeeper (Region V)
region_keeper K = record {
  tells_reads = K.tells_reads;
  leaves = K.leaves;
  held = λ r. K.held r.volume.now;
  condition = λ r. region_condition r.volume.ghost_name r.number (K.condition r.volume.now);
  honest_below = λ r. K.honest_below r.volume.now;
  honest = λ r. K.honest r.volume.now;
  text = λ r. K.text r.volume.now;
  damage = λ r. K.damage r.volume.now;
  moment = λ r. K.moment r.volume.now;
  left_since = λ r. K.left_since r.volume.now;
}

-- the number of a region
abbrev pub number_of : {V : Type 0} → Region V → ℕ
number_of r = r.number

-- the leaves of all regions but this one
abbrev pub others : ℕ → Leaves → ℕ → ℕ → List ℕ
others region leaves r l = if r == region then [] else leaves r l

-- what is kept beside a region
abbrev pub rest_of : ℕ → Held → Rest
rest_of region held = record { leaves = others region held.leaves }

-- how the regions in use are laid out
abbrev pub in_use : Layout
in_use = layout Two

-- how the regions of a version of the format are laid out: one layout so far
abbrev pub layout_of : ℕ → Layout
layout_of version = in_use

-- what the leaves of a region stand for, by the version that is held
abbrev pub region_in : ℕ → Held → Result Store ℕ
region_in region held = region_of (layout_of held.version) (held.leaves region)

-- a store, and an empty one where there is none
abbrev pub store_or_empty : Result Store ℕ → Store
store_or_empty (Ok store) = store
store_or_empty (Err leaf) = empty_store

-- the store of a region, and an empty one where it stands for none
abbrev pub store_in : ℕ → Held → Store
store_in region held = store_or_empty (region_in region held)

-- this store, the other regions and the sequence
abbrev pub beside : ℕ → Held → Store → Contents
beside region held store = record { store = store; rest = rest_of region held; number = held.sequence }

-- what a volume holds, as the store of one region and what is beside it
abbrev pub contents_in : ℕ → Held → Contents
contents_in region held = beside region held (store_in region held)

-- what is left of a region that stands for this: its store with what is beside it, or nothing
abbrev pub remains_of : ℕ → Held → Result Store ℕ → Remains
remains_of region held (Ok store) = Some (beside region held store)
remains_of region held (Err leaf) = None

-- what a crash leaves of a volume, as the store of one region and what is beside it: nothing where the region stands for no store
abbrev pub remains_in : ℕ → Option Held → Remains
remains_in region None = None
remains_in region (Some held) = remains_of region held (region_in region held)

module _ {V : Type 0} (K : VolumeKeeper V) where
  -- what the region and the volume keep
  abbrev pub kept_in : Region V → Contents
  kept_in r = contents_in r.number (K.held r.volume.now)

  -- a volume is honest, and the region of this number stands for a store
  pub record KeepsStore (number : ℕ) (volume : V) : Type 0 where
    pub honest : K.honest volume
    pub stands : region_in number (K.held volume) ≡ Ok (store_in number (K.held volume))

  -- so it is with the volume of a region
  abbrev pub HasStore : Region V → Type 0
  HasStore r = KeepsStore r.number r.volume.now
