-- Leaves in ascending order of their numbers.
use Rattle.std.specs.Prelude.{ℕ, ◌&&◌, Bool, true, nat_lt, List, [], ◌∷◌}
use Rattle.std.specs.List.{list_all}
use Rattle.store_api.specs.declared.leaves.Leaf.{Leaf}

-- each number is above all before it
abbrev pub is_ascending : List Leaf → Bool
is_ascending [] = true
is_ascending (leaf ∷ leaves) = list_all (λ later. nat_lt leaf.number later.number) leaves && is_ascending leaves

-- this number is above all of them
abbrev pub is_above_all : List Leaf → ℕ → Bool
is_above_all leaves number = list_all (λ leaf. nat_lt leaf.number number) leaves
