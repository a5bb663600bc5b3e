-- Data that is where it should be.
use Rattle.std.specs.Prelude.{ℕ, ◌≡◌, ◌<◌, true, Some}
use Rattle.region_plan.specs.Layout.{Layout}
use Rattle.region_plan.specs.Entries.{entry_at, is_data_of}
use Rattle.region_plan.specs.Regions.{leaf_of}
use Rattle.tee_base.specs.Words.{RegionLeaves}

module _ (L : Layout) (leaves : RegionLeaves) where
  -- a leaf of data is the one that is found at its index, which is below this number
  pub record IsInPlace (inode blocks i : ℕ) : Type 0 where
    pub before : (entry_at L leaves i).index < blocks
    pub first : leaf_of L leaves inode (entry_at L leaves i).index ≡ Some i

  -- if the leaf is data of an inode, it is in place
  abbrev pub IfDataInPlace : ℕ → ℕ → ℕ → Type 0
  IfDataInPlace inode blocks i = is_data_of L leaves inode i ≡ true → IsInPlace inode blocks i
