-- What a place of a volume is.
use Rattle.std.specs.Prelude.{◌≡◌, ◌<◌, ℕ}
use Rattle.tree_paths.specs.Shape.{shape}
use Rattle.tree_paths.specs.declared.places.TheConstants.{FIRST_LEAF}
use Rattle.inspect.specs.declared.place.Spot.{Spot}
use Rattle.inspect.specs.declared.place.Spot.TheVariants.{Node, Leaf}

-- it is a node of the tree, or this leaf of this region
abbrev pub IsSpot : ℕ → Spot → Type 0
IsSpot place Node = place < FIRST_LEAF
IsSpot place (Leaf region leaf) = (place ≡ shape.leaf_place region leaf) × (leaf < shape.leaves)
