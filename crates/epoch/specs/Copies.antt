-- The two copies of a block, and the damage of what is read of one.
use Rattle.std.specs.Prelude.{ℕ, ◌==◌, bytes_eq, if◌then◌else◌, List, Option, Some, None}
use Rattle.store_api.specs.declared.answer.Mismatch.{Mismatch}

-- which of its two copies a number names
abbrev pub copy_of : ℕ → ℕ
copy_of copy = if copy == 0 then 0 else 1

-- a tag that was computed and the one that is kept, where they differ
unfoldable pub difference : List ℕ → List ℕ → Option Mismatch
difference found kept =
    if bytes_eq found kept then None else Some (record { found = found; kept = kept })

-- the first of two damages
abbrev pub first_damage : Option Mismatch → Option Mismatch → Option Mismatch
first_damage (Some tags) rest = Some tags
first_damage None rest = rest
