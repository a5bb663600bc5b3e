-- What is gathered before a commit writes: the nodes that it touches, as they stand under a root.
use Rattle.std.specs.Prelude.{◌≡◌, ◌≢◌, ◌<◌, ◌⊎◌, ◌==◌, if◌then◌else◌, ℕ, zero, suc, List, [], ◌∷◌, length, Option, Some, None}
use Rattle.std.proofs.Props.{props}
use Rattle.tee_base.specs.declared.limits.TheConstants.{BLOCK_BYTES}
use Rattle.store_api.specs.declared.leaves.Leaf.{Leaf}
use Rattle.epoch.specs.declared.header.TreeEntry.{TreeEntry}
use Rattle.tree_commits.specs.declared.touched.Node.{Node}
use Rattle.tree_paths.specs.declared.places.TheConstants.{REGION_LEAVES}
use Rattle.tree_paths.specs.Shape.{Shape, shape}
use Rattle.tree_commits.specs.Touched.{AreOrdered, fresh_of}
use Rattle.tree_paths.specs.Tree.{Look, damage_of, entry_of, text_of}

-- the bytes that these leaves give a number, where one of them has it
abbrev pub leaf_among : List Leaf → ℕ → Option (List ℕ)
leaf_among [] number = None
leaf_among (leaf ∷ leaves) number = if leaf.number == number then Some leaf.bytes else leaf_among leaves number

-- the leaves among nodes are these of a region
pub record AreOfLeaves (nodes : List Node) (region : ℕ) (leaves : List Leaf) : Type 0 where
  pub here : (l : ℕ) → l < REGION_LEAVES → fresh_of nodes (shape.leaf_place region l) ≡ leaf_among leaves l
  pub elsewhere : (r l : ℕ) → r ≢ region → l < REGION_LEAVES
      → fresh_of nodes (shape.leaf_place r l) ≡ None

-- nodes in their order, or none yet
abbrev pub AreGathered : Shape → List Node → Type 0
AreGathered s [] = Unit {0}
AreGathered s (node ∷ nodes) = AreOrdered s (node ∷ nodes)

-- it is a proposition
ordered_prop : (s : Shape) (nodes : List Node) → IsProp (AreOrdered s nodes)
ordered_prop s [] = Prim.hlevel props
ordered_prop s (node ∷ []) = Prim.hlevel props
ordered_prop s (node ∷ next ∷ nodes) = Prim.hlevel (props, ordered_prop s (next ∷ nodes))

pub AreGathered-prop : (s : Shape) (nodes : List Node) → IsProp (AreGathered s nodes)
AreGathered-prop s [] = Prim.hlevel props
AreGathered-prop s (node ∷ nodes) = ordered_prop s (node ∷ nodes)

-- a place is on the way to one that lies so far below the root
abbrev pub IsOnWay : Shape → ℕ → ℕ → ℕ → Type 0
IsOnWay s zero place p = p ≡ place
IsOnWay s (suc level) place p = (p ≡ place) ⊎ IsOnWay s level (s.parent place) p

-- one node more, of a place whose entry names this copy
pub record IsPushed (place copy : ℕ) (old new : List Node) : Type 0 where
  pub bytes : List ℕ
  pub long : length bytes ≡ BLOCK_BYTES
  pub is : new ≡ record { place = place; copy = copy; bytes = bytes } ∷ old

module _ (s : Shape) (look : Look) (root : TreeEntry) where
  -- the copy of each is the one that its entry names
  abbrev pub AreInUse : List Node → Type 0
  AreInUse [] = Unit {0}
  AreInUse (node ∷ nodes) = (node.copy ≡ (entry_of s look root node.place).copy) × AreInUse nodes

  -- each above the leaves has the bytes that stand there, with no damage on its way
  pub record AreTrue (depth : ℕ) (nodes : List Node) : Type 0 where
    pub text : (p : ℕ) (t : List ℕ) → p < s.places → s.level p < depth → fresh_of nodes p ≡ Some t
        → t ≡ text_of s look root p
    pub sound : (p : ℕ) (t : List ℕ) → p < s.places → s.level p < depth → fresh_of nodes p ≡ Some t
        → damage_of s look root p ≡ None
    pub copies : AreInUse nodes
