-- Blocks in a list, by their numbers.
use Rattle.std.specs.Prelude.{◌==◌, ℕ, Bool, List}
use Rattle.std.specs.List.{list_any, position_or_len}

-- how many are before the block in the list; all of them, where it isn't listed
abbrev pub place_in : List ℕ → ℕ → ℕ
place_in blocks k = position_or_len (λ n. n == k) blocks

-- the block is in the list
abbrev pub is_listed : List ℕ → ℕ → Bool
is_listed blocks k = list_any (λ n. n == k) blocks
