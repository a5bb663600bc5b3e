-- Pieces of a block.
use Rattle.std.specs.Prelude.{ℕ, ◌+◌, List, ◌++◌, length, take, drop}

-- so many bytes of a block from a place on
abbrev pub part : ℕ → ℕ → List ℕ → List ℕ
part at count block = take count (drop at block)

-- a block with these bytes from a place on
abbrev pub with_bytes_at : ℕ → List ℕ → List ℕ → List ℕ
with_bytes_at at bytes block = take at block ++ bytes ++ drop (at + length bytes) block
