-- Counts that have no bytes.
use Rattle.std.specs.Prelude.{ℕ, ◌+◌}
use Rattle.store_api.specs.declared.tally.Count.{Count}
use Rattle.store_api.specs.declared.tally.Count.TheVariants.{Zero, OneMore}

-- the number that a count stands for
abbrev pub number_of : Count → ℕ
number_of Zero = 0
number_of (OneMore before) = before.value + 1
