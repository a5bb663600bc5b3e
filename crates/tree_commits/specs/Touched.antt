-- The places that a commit touches, each before the place that it is an entry of.
use Rattle.std.specs.Prelude.{◌≡◌, ◌<◌, ℕ, ◌-◌, ◌==◌, if◌then◌else◌, Bool, true, List, [], ◌∷◌, map, length, Option, Some, None, IsSome}
use Rattle.tee_base.specs.declared.limits.TheConstants.{BLOCK_BYTES}
use Rattle.epoch.specs.Parts.{with_bytes_at}
use Rattle.tree_commits.specs.declared.touched.Node.{Node}
use Rattle.tree_paths.specs.Shape.{Shape}
use Rattle.epoch.specs.Copies.{copy_of}
use Rattle.tree_paths.specs.Tree.{block_at}

-- the bytes that a place is to have, where it is among these
abbrev pub fresh_of : List Node → ℕ → Option (List ℕ)
fresh_of [] place = None
fresh_of (node ∷ nodes) place = if node.place == place then Some node.bytes else fresh_of nodes place

-- a node with these bytes from there on, where it is the one of the place
abbrev pub with_bytes : ℕ → ℕ → List ℕ → Node → Node
with_bytes place at bytes node =
    if node.place == place
    then record { place = node.place; copy = node.copy; bytes = with_bytes_at at bytes node.bytes }
    else node

-- the same of each node
abbrev pub all_with_bytes : ℕ → ℕ → List ℕ → List Node → List Node
all_with_bytes place at bytes nodes = map (with_bytes place at bytes) nodes

-- each stands once, before the place that it is an entry of; the last is the root
abbrev pub AreOrdered : Shape → List Node → Type 0
AreOrdered s [] = ⊥
AreOrdered s (node ∷ []) = (node.place ≡ 0) × (length node.bytes ≡ BLOCK_BYTES)
AreOrdered s (node ∷ next ∷ nodes) =
    (0 < node.place) × (length node.bytes ≡ BLOCK_BYTES) × (node.place < s.places)
    × (fresh_of (next ∷ nodes) node.place ≡ None)
    × IsSome (fresh_of (next ∷ nodes) (s.parent node.place)) × AreOrdered s (next ∷ nodes)

-- the block of the copy of a node that isn't in use
abbrev pub spare_block : Shape → Node → ℕ
spare_block s node = block_at s node.place (1 - copy_of node.copy)

-- these blocks are among the open ones
abbrev pub AreSpare : Shape → (ℕ → Bool) → List Node → Type 0
AreSpare s open_at [] = Unit {0}
AreSpare s open_at (node ∷ nodes) = (open_at (spare_block s node) ≡ true) × AreSpare s open_at nodes
