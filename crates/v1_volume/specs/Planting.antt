-- Nodes of a tree of which nothing was written yet, with the leaves that it gets.
use Rattle.std.specs.Prelude.{◌≡◌, ◌<◌, ℕ, List, Option, Some, None, replicate}
use Rattle.tee_base.specs.Words.{RegionLeaves}
use Rattle.tee_base.specs.declared.limits.TheConstants.{BLOCK_BYTES, MAX_HOSTS}
use Rattle.v1_volume.specs.Renumbering.{converted_leaf}
use Rattle.tree_commits.specs.Touched.{fresh_of}
use Rattle.tree_commits.specs.declared.touched.Node.{Node}
use Rattle.tree_paths.specs.Shape.{shape}
use Rattle.tree_paths.specs.declared.places.TheConstants.{DEPTH, REGION_LEAVES}

-- each node above the leaves has no entries
pub record AreBlank (nodes : List Node) : Type 0 where
  pub zeros : (p : ℕ) (t : List ℕ) → shape.level p < DEPTH → fresh_of nodes p ≡ Some t → t ≡ replicate BLOCK_BYTES 0

-- the bytes of a leaf that is written, or zeros
abbrev pub or_zeros : Option (List ℕ) → List ℕ
or_zeros (Some text) = text
or_zeros None = replicate BLOCK_BYTES 0

-- the nodes have the leaves that regions of the first form become, and no entries
pub record ArePlanted (nodes : List Node) (regions : ℕ → RegionLeaves) : Type 0 where
  pub blank : AreBlank nodes
  pub leaves : (region leaf : ℕ) → region < MAX_HOSTS → leaf < REGION_LEAVES
      → or_zeros (fresh_of nodes (shape.leaf_place region leaf)) ≡ converted_leaf (regions region) leaf
