-- What blocks that differ in their last byte alone have in common in the first two rounds (FIPS 197, section 5.1).
use Rattle.std.specs.Prelude.{◌≡◌, ℕ, ◌<◌, List, [], ◌∷◌, ◌++◌, take, bit_xor, slice_index}
use Rattle.aes_core.specs.declared.key.Key.{Key}
use Rattle.aes_core.specs.declared.shared.SharedStart.{SharedStart}
use Rattle.aes_core.specs.Cipher.{cipher_rounds}
use Rattle.aes_core.specs.Columns.{mixed_0, mixed_1, mixed_2, mixed_3}
use Rattle.aes_core.specs.Field.{substitute}
use Rattle.aes_core.specs.Words.{word_bytes, block_of}

-- the block b with the last byte x
unfoldable pub with_last : List ℕ → ℕ → List ℕ
with_last b x = take 15 b ++ x ∷ []

-- Whatever the last byte x: where the word p is what it adds to the first column in the first round, and q, r, s and t
-- are what the bytes of that column add to the four columns in the second, the sums are the state after two rounds.
pub record IsSharedStart (k : Key) (b : List ℕ) (start : SharedStart) : Type 0 where
  pub two_rounds : (x p q r s t : ℕ) → x < 256
      → word_bytes p ≡ mixed_3 (substitute (bit_xor x start.last_key))
      → word_bytes q ≡ mixed_0 (substitute (slice_index (word_bytes (bit_xor start.first p)) 0))
      → word_bytes r ≡ mixed_3 (substitute (slice_index (word_bytes (bit_xor start.first p)) 3))
      → word_bytes s ≡ mixed_2 (substitute (slice_index (word_bytes (bit_xor start.first p)) 2))
      → word_bytes t ≡ mixed_1 (substitute (slice_index (word_bytes (bit_xor start.first p)) 1))
      → block_of (bit_xor (slice_index start.second 0) q) (bit_xor (slice_index start.second 1) r)
      (bit_xor (slice_index start.second 2) s) (bit_xor (slice_index start.second 3) t)
      ≡ cipher_rounds k.words (with_last b x) 2
