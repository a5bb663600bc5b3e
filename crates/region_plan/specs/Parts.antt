-- Pieces of a leaf.
use Rattle.std.specs.Prelude.{ℕ, ◌+◌, ◌==◌, Bool, List, ◌++◌, length, take, drop}
use Rattle.std.specs.List.{list_all}

-- so many bytes from a place on
abbrev pub part : ℕ → ℕ → List ℕ → List ℕ
part at count bytes = take count (drop at bytes)

-- a leaf with these bytes from a place on
abbrev pub with_bytes_at : ℕ → List ℕ → List ℕ → List ℕ
with_bytes_at at bytes block = take at block ++ bytes ++ drop (at + length bytes) block

-- no byte is another than zero
abbrev pub are_zero : List ℕ → Bool
are_zero bytes = list_all (λ byte. byte == 0) bytes
