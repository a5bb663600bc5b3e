use Rattle.std.proofs.Common.{◌≡◌, ◌≤◌, ◌<◌, ℕ, None}
use Rattle.tree_commits.specs.Gather.{leaf_among}
use Rattle.tree_commits.specs.Touched.{AreOrdered, fresh_of}
use Rattle.tree_paths.specs.Shape.{shape}
use Rattle.v1_volume.specs.Old.{named_of}
use Rattle.v1_volume.specs.Planting.{AreBlank}
use Rattle.v1_volume.proofs.planting.plant_all.Given as goal

-- the leaves of the regions below this one are there, and no others
abbrev pub invariant-loop-region : goal.invariant-loop-region
invariant-loop-region l = record {
  ordered : AreOrdered shape l.touched;
  blank : AreBlank l.touched;
  here : (r n : ℕ) → r < l.region → n < 1024 → fresh_of l.touched (shape.leaf_place r n) ≡ leaf_among (named_of l.regions.items r) n;
  later : (r n : ℕ) → l.region ≤ r → n < 1024 → fresh_of l.touched (shape.leaf_place r n) ≡ None;
}
