-- The handles on each object, counted by their flags.
use Rattle.std.specs.Prelude.{ℕ, ◌≡◌, ◌≤◌, ◌+◌, ◌==◌, ⊤, Bool, true, false, List, [], ◌∷◌, ◌++◌, IsTrue, if◌then◌else◌, map, count_by, replicate}
use Rattle.std.specs.List.{All}
use Rattle.std.specs.List.Sorted.{IsStrictlySortedBy}
use Rattle.std.specs.Ordering.{nat_cmp}
use Rattle.std.specs.Cmp.Lexicographic.{slice_cmp}
use Rattle.std.specs.Global.{Vec}
use Rattle.tee_base.specs.declared.codes.Flags.{Flags}
use Rattle.share_rules.specs.declared.group.Count.{Count}
use Rattle.share_rules.specs.declared.index.Share.{Share}
use Rattle.tee_base.specs.Words.{Identifier}

-- ---- one object

-- the same flags
abbrev pub is_same : Flags → Flags → Bool
is_same flags other = other.0 == flags.0

-- the count of handles with these flags
abbrev pub is_of : Flags → Count → Bool
is_of flags c = c.flags.0 == flags.0

-- the flags of each handle
abbrev pub flags_of : List Count → List Flags
flags_of [] = []
flags_of (c ∷ cs) = replicate c.handles c.flags ++ flags_of cs

-- each count has a handle
abbrev pub AreCounted : List Count → Type 0
AreCounted counts = All (λ c. 1 ≤ c.handles) counts

-- the new handles are the old ones and one more: each test passes on as many
abbrev pub GainsFlags : List Flags → Flags → List Flags → Type 0
GainsFlags old flags new = (test : Flags → Bool) → count_by test new ≡ count_by test old + (if test flags then 1 else 0)

-- there is a handle
abbrev pub has_some : List Flags → Bool
has_some [] = false
has_some (x ∷ xs) = true

-- ---- all objects

-- the handle on the object of this identifier with these flags
abbrev pub share : Identifier → Flags → Share
share id flags = record { id = id; flags = flags }

-- each handle, object after object
abbrev pub shares_of : List (Vec ℕ × List Flags) → List Share
shares_of [] = []
shares_of (e ∷ es) = map (share e.0.items) e.1 ++ shares_of es

-- each object has a handle
abbrev pub AllHeld : List (Vec ℕ × List Flags) → Type 0
AllHeld [] = ⊤
AllHeld (e ∷ es) = IsTrue (has_some e.1) × AllHeld es

-- the identifiers ascend, and no entry is empty
pub record AreGrouped (entries : List (Vec ℕ × List Flags)) : Type 0 where
  pub sorted : IsStrictlySortedBy (λ x y. slice_cmp nat_cmp x.items y.items) (map (λ e. e.0) entries)
  pub held : AllHeld entries
