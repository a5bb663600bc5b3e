-- What the transfers of whole texts do to the bytes of sources and sinks, where these are told.
use Rattle.std.specs.Prelude.{ℕ, ◌<◌, ◌≤◌, ◌≡◌, ◌++◌, List, Option, IfSome, length}
use Rattle.std.specs.Io.KnownBytes.{Appends, Consumes}

-- at most so many bytes were taken, and the rest is left
abbrev pub ConsumesWithin : ℕ → Option (List ℕ) → Option (List ℕ) → Type 0
ConsumesWithin most old new = (taken : List ℕ) × (length taken ≤ most) × Consumes old new taken

-- more bytes are left than that
abbrev pub HasMoreThan : ℕ → Option (List ℕ) → Type 0
HasMoreThan limit left = IfSome left (λ bytes. limit < length bytes)

-- a front of the piece was appended, and nothing else
abbrev pub AppendsFront : List ℕ → Option (List ℕ) → Option (List ℕ) → Type 0
AppendsFront piece old new = (front : List ℕ) × (behind : List ℕ) × (piece ≡ front ++ behind) × Appends old new front
