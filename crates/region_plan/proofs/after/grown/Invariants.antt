use Rattle.std.proofs.Common.{◌≡◌, ◌≤◌, ℕ, List, Ok, length}
use Rattle.std.specs.List.{All}
use Rattle.store_api.specs.Stores.{Store}
use Rattle.region_plan.specs.Layout.{layout}
use Rattle.region_plan.specs.Places.{IsMapOf}
use Rattle.region_plan.specs.Regions.{region_of}
use Rattle.region_plan.specs.Tables.{IsWithin}
use Rattle.region_plan.specs.Written.{AreWritten, unwritten_from}
use Rattle.region_plan.specs.declared.form.Form.TheVariants.{Two}
use Rattle.region_plan.proofs.WrittenLemmas.{GrownSoFar}
use Rattle.region_plan.proofs.after.grown.Given as goal

-- the inodes below this leaf are there, and those from it on that aren't written
abbrev pub invariant-loop-leaf : goal.invariant-loop-leaf
invariant-loop-leaf l = record {
  few : length l.inodes ≤ 1024;
  place : l.place ≤ l.leaf;
  within : All (IsWithin (layout Two)) l.fn.inodes → All (IsWithin (layout Two)) l.inodes;
  told : (leaves : ℕ → List ℕ) → IsMapOf (layout Two) leaves l.map → AreWritten l.named leaves → l.fn.inodes ≡ unwritten_from (layout Two) leaves l.named 0
      → (store : Store) → region_of (layout Two) leaves ≡ Ok store → GrownSoFar (layout Two) leaves l.named l.inodes l.place l.leaf;
}
