-- What a commit seals of the nodes that it touches.
use Rattle.std.specs.Prelude.{◌≡◌, ◌<◌, ℕ, ◌*◌, ◌==◌, if◌then◌else◌, List, Some, None, IsSome}
use Rattle.seal.specs.Sealing.{seal_vector}
use Rattle.epoch.specs.Header.{entry_at}
use Rattle.epoch.specs.declared.header.TreeEntry.{TreeEntry}
use Rattle.tree_paths.specs.declared.places.TheConstants.{ENTRY_BYTES}
use Rattle.tree_commits.specs.declared.touched.Node.{Node}
use Rattle.tree_paths.specs.Shape.{Shape}
use Rattle.tree_commits.specs.Touched.{fresh_of}
use Rattle.tee_base.specs.Words.{Key, Sequence}

-- the entry of a place is sealed for this sequence, with the stated vector of these bytes
pub record IsSealedFor (key : Key) (place number : ℕ) (plain : List ℕ) (entry : TreeEntry) : Type 0 where
  pub sequence : entry.sequence ≡ number
  pub vector : entry.iv ≡ seal_vector key place number plain

-- the entry of a place under a root, where each node has these bytes
abbrev pub entry_by : Shape → (ℕ → List ℕ) → TreeEntry → ℕ → TreeEntry
entry_by s texts root place =
    if place == 0 then root else entry_at (ENTRY_BYTES * s.slot place) (texts (s.parent place))

-- these nodes were sealed for a sequence, under a root: each is as it was but for the entries of the others
pub record AreSealed (s : Shape) (depth : ℕ) (key : Key) (sequence : Sequence) (nodes : List Node) (root : TreeEntry) : Type 0 where
  -- the bytes that each was sealed with
  pub texts : ℕ → List ℕ
  pub sealed : (p : ℕ) → IsSome (fresh_of nodes p) → IsSealedFor key p sequence (texts p) (entry_by s texts root p)
  pub leaves : (p : ℕ) (t : List ℕ) → s.level p ≡ depth → fresh_of nodes p ≡ Some t → texts p ≡ t
  -- an entry that is of none of them stays as it was
  pub others : (p i : ℕ) (t : List ℕ) → fresh_of nodes p ≡ Some t
      → ((q : ℕ) → 0 < q → s.parent q ≡ p → s.slot q ≡ i → fresh_of nodes q ≡ None)
      → entry_at (ENTRY_BYTES * i) (texts p) ≡ entry_at (ENTRY_BYTES * i) t
