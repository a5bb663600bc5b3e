use Rattle.std.proofs.Common.{◌≡◌, ◌≢◌, ◌<◌, ℕ, true, nat_lt, IsSome, drop}
use Rattle.std.specs.List.{list_all}
use Rattle.store_api.specs.Ascending.{is_ascending}
use Rattle.store_api.specs.declared.leaves.Leaf.{Leaf}
use Rattle.tree_commits.specs.Gather.{leaf_among}
use Rattle.tree_commits.specs.Touched.{AreOrdered, fresh_of}
use Rattle.tree_commits.proofs.GatherLemmas.{first_bytes}
use Rattle.tree_paths.specs.Shape.{shape}
use Rattle.v1_volume.specs.Planting.{AreBlank}
use Rattle.v1_volume.proofs.planting.plant_region.Given as goal

-- the leaves so far are there, and those that are left have greater numbers
abbrev pub invariant-loop-leaf : goal.invariant-loop-leaf
invariant-loop-leaf l = record {
  ordered : AreOrdered shape l.touched;
  blank : AreBlank l.touched;
  ascending : is_ascending (drop l.leaf-index l.leaves) ≡ true;
  here : (n : ℕ) → n < 1024 → first_bytes (fresh_of l.touched (shape.leaf_place l.region n)) (leaf_among (drop l.leaf-index l.leaves) n) ≡ leaf_among l.leaves n;
  below : (n : ℕ) → n < 1024 → IsSome (fresh_of l.touched (shape.leaf_place l.region n))
      → list_all (λ (later : Leaf). nat_lt n later.number) (drop l.leaf-index l.leaves) ≡ true;
  elsewhere : (r n : ℕ) → r ≢ l.region → n < 1024 → fresh_of l.touched (shape.leaf_place r n) ≡ fresh_of l.fn.touched (shape.leaf_place r n);
}
