-- An offer of bytes to a block, and the last of several.
use Rattle.std.specs.Prelude.{ℕ, ◌==◌, if◌then◌else◌, List, [], ◌∷◌}

-- a write that offered these bytes to this block
pub record Offer : Type 0 where
  pub block : ℕ
  pub bytes : List ℕ

-- the last bytes that were offered to a block; none, where none were
abbrev pub last_offered : List Offer → ℕ → List ℕ
last_offered [] k = []
last_offered (offer ∷ before) k = if offer.block == k then offer.bytes else last_offered before k
