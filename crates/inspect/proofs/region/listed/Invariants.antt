use Rattle.std.proofs.Common.{◌≡◌, ℕ, List, None, length}
use Rattle.inspect.specs.Listings.{AreNext}
use Rattle.region_plan.specs.Directories.{IsDirectoryOf}
use Rattle.region_plan.specs.Layout.{layout}
use Rattle.region_plan.specs.Regions.{store_of}
use Rattle.inspect.proofs.region.listed.Given as goal

-- as many objects as rounds, each the next after the one before it
abbrev pub invariant-loop : goal.invariant-loop
invariant-loop l =
    (length l.objects.items ≡ l.counter) × ((leaves : ℕ → List ℕ) → IsDirectoryOf leaves l.directory
    → AreNext (store_of (layout l.directory.form) leaves) None l.objects.items)
