-- Words of 32 bits as four bytes, and the four words of a block (FIPS 197, section 3.5).
use Rattle.std.specs.Prelude.{ℕ, ◌+◌, ◌*◌, List, [], ◌∷◌, ◌++◌, bit_xor, slice_index}
use Rattle.std.specs.Int.{w32, from_be_bytes, to_be_bytes}

-- the bytes of a word, highest first
unfoldable pub word_bytes : ℕ → List ℕ
word_bytes x = to_be_bytes w32 x

-- word i of a list of bytes
unfoldable pub word_at : List ℕ → ℕ → ℕ
word_at b i = from_be_bytes w32
    (slice_index b (4 * i) ∷ slice_index b (4 * i + 1) ∷ slice_index b (4 * i + 2) ∷ slice_index b (4 * i + 3) ∷ [])

-- the bytes of four words
abbrev pub block_of : ℕ → ℕ → ℕ → ℕ → List ℕ
block_of a b c d = word_bytes a ++ (word_bytes b ++ (word_bytes c ++ word_bytes d))

-- the bytes of the first four words of a list
unfoldable pub block_bytes : List ℕ → List ℕ
block_bytes w = block_of (slice_index w 0) (slice_index w 1) (slice_index w 2) (slice_index w 3)

-- the sums of the bytes of two columns
abbrev pub add_columns : List ℕ → List ℕ → List ℕ
add_columns x y =
    bit_xor (slice_index x 0) (slice_index y 0) ∷ bit_xor (slice_index x 1) (slice_index y 1)
    ∷ bit_xor (slice_index x 2) (slice_index y 2) ∷ bit_xor (slice_index x 3) (slice_index y 3) ∷ []
