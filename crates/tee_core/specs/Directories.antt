-- The directories of regions that are kept between turns.
use Rattle.std.specs.Prelude.{ℕ, List, Option, None, slice_index_or}
use Rattle.object_dir.specs.Kept.{IsHeld}
use Rattle.region_plan.specs.declared.directory.Directory.{Directory}
use Rattle.tee_base.specs.Words.{Leaves}

-- the directory that is kept of a region, if one is
abbrev pub kept_at : List (Option Directory) → ℕ → Option Directory
kept_at kept region = slice_index_or kept region None

-- each directory that is kept is that of its region's leaves
abbrev pub AreHeld : Leaves → List (Option Directory) → Type 0
AreHeld leaves kept = (region : ℕ) → IsHeld (leaves region) (kept_at kept region)
