-- GHASH over a whole list of bytes (SP 800-38D, section 6.4).
use Rattle.std.specs.Prelude.{ℕ, zero, suc, ◌-◌, ◌/◌, ◌%◌, List, ◌++◌, length, replicate, bit_xor}
use Rattle.aes_modes.specs.Modes.{block_at, number_of}
use Rattle.ae_modes.specs.Field.{product}

-- the sum after the first n blocks, under the hash subkey h
unfoldable pub ghash_blocks : ℕ → List ℕ → ℕ → ℕ
ghash_blocks h x zero = 0
ghash_blocks h x (suc n) = product (bit_xor (ghash_blocks h x n) (number_of (block_at x n))) h

-- the sum after all blocks
abbrev pub ghash : ℕ → List ℕ → ℕ
ghash h x = ghash_blocks h x (length x / 16)

-- bytes filled by zeros to whole blocks
abbrev pub whole_blocks : List ℕ → List ℕ
whole_blocks x = x ++ replicate ((16 - length x % 16) % 16) 0
