-- The bytes that were written, as a chain.
use Rattle.std.specs.Prelude.{ℕ, List, [], ◌∷◌, ◌++◌}
use Rattle.summary.specs.declared.told.Link.{Link}
use Rattle.summary.specs.declared.told.Link.TheVariants.{Start, Then}

-- the bytes of a chain, the last of them last
abbrev pub bytes_of : Link → List ℕ
bytes_of Start = []
bytes_of (Then before byte) = before.value ++ byte.value ∷ []
