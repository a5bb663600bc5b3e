-- What a volume keeps of its nodes is what reads give under its root.
use Rattle.std.specs.Prelude.{◌≡◌, ℕ, List, [], ◌∷◌, None, Some}
use Rattle.std.proofs.Props.{props}
use Rattle.node_cache.specs.Kept.{kept_at}
use Rattle.node_cache.specs.declared.cache.Kept.{Kept}
use Rattle.epoch.specs.declared.header.TreeEntry.{TreeEntry}
use Rattle.tree_paths.specs.declared.way.Passed.{Passed}
use Rattle.tree_paths.specs.Shape.{Shape}
use Rattle.tree_paths.specs.Tree.{Look, damage_at, damage_of, entry_of, text_of}

-- what is kept of a place under the tag of an entry is what the entry names, and nothing is damaged there
abbrev pub IsFoundUnder : List (ℕ × Kept) → Look → ℕ → TreeEntry → Type 0
IsFoundUnder pairs look place entry =
    (node : List ℕ) → kept_at pairs place entry.tag ≡ Some node
    → (node ≡ (look place entry).text) × (damage_at look place entry ≡ None)

module _ (s : Shape) (look : Look) (root : TreeEntry) where
  -- the tag of a place and its bytes, with no damage on the way to it
  pub record IsFound (place : ℕ) (under node : List ℕ) : Type 0 where
    pub tag : under ≡ (entry_of s look root place).tag
    pub text : node ≡ text_of s look root place
    pub sound : damage_of s look root place ≡ None

  -- all that is kept is so
  pub record AreKept (pairs : List (ℕ × Kept)) : Type 0 where
    pub each : (place : ℕ) (tag node : List ℕ) → kept_at pairs place tag ≡ Some node
        → IsFound place tag node

  -- and all nodes that a read came by
  abbrev pub ArePassed : List Passed → Type 0
  ArePassed [] = Unit {0}
  ArePassed (passed ∷ rest) = IsFound passed.place passed.tag passed.node × ArePassed rest

  -- in one way at most
  pub AreKept-prop : (pairs : List (ℕ × Kept)) → IsProp (AreKept pairs)
  AreKept-prop pairs = Prim.hlevel props
