-- The modes of operation over a whole message (SP 800-38A, section 6).
use Rattle.std.specs.Prelude.{ℕ, zero, suc, ◌+◌, ◌*◌, ◌/◌, ◌%◌, ◌^◌, List, [], ◌∷◌, ◌++◌, length, take, drop, bit_xor, slice_index}
use Rattle.std.specs.Int.{w128, from_be_bytes, to_be_bytes}
use Rattle.aes_core.specs.Cipher.{cipher, inv_cipher}
use Rattle.aes_modes.specs.declared.modes.Mode.{Mode}
use Rattle.aes_modes.specs.declared.modes.Mode.TheVariants.{Ecb, Cbc, Ctr}
use Rattle.aes_modes.specs.declared.modes.Way.{Way}
use Rattle.aes_modes.specs.declared.modes.Way.TheVariants.{Encrypt, Decrypt}

-- block n of a message
abbrev pub block_at : List ℕ → ℕ → List ℕ
block_at m n = take 16 (drop (16 * n) m)

-- the sums of the bytes of two lists
unfoldable pub xor_bytes : List ℕ → List ℕ → List ℕ
xor_bytes [] ks = []
xor_bytes (x ∷ xs) [] = []
xor_bytes (x ∷ xs) (k ∷ ks) = bit_xor x k ∷ xor_bytes xs ks

-- the first n of a sequence of blocks, one after the other
unfoldable pub join_blocks : (ℕ → List ℕ) → ℕ → List ℕ
join_blocks block zero = []
join_blocks block (suc n) = join_blocks block n ++ block n

-- output block n of CBC encryption (6.2)
unfoldable pub cbc_block : List ℕ → List ℕ → List ℕ → ℕ → List ℕ
cbc_block key iv m zero = cipher key (xor_bytes iv (block_at m 0))
cbc_block key iv m (suc n) = cipher key (xor_bytes (cbc_block key iv m n) (block_at m (suc n)))

-- the block before input block n, and the vector before the first (6.2)
unfoldable pub block_before : List ℕ → List ℕ → ℕ → List ℕ
block_before iv m zero = iv
block_before iv m (suc n) = block_at m n

-- the vector as one number of 128 bits, highest byte first
unfoldable pub number_of : List ℕ → ℕ
number_of iv = from_be_bytes w128 iv

-- the counter block of a number, which wraps at 2^128 (6.5, appendix B.1)
unfoldable pub counter_block : ℕ → List ℕ
counter_block n = to_be_bytes w128 (n % 2 ^ 128)

-- the bytes of a message from place i on, each with its byte of the enciphered counters (6.5)
unfoldable pub ctr_from : List ℕ → List ℕ → ℕ → List ℕ → List ℕ
ctr_from key iv i [] = []
ctr_from key iv i (x ∷ xs) =
    bit_xor x (slice_index (cipher key (counter_block (number_of iv + i / 16))) (i % 16)) ∷ ctr_from key iv (suc i) xs

-- what a mode makes of a message: of its whole blocks, or in counter mode of each byte
unfoldable pub mode_text : Mode → Way → List ℕ → List ℕ → List ℕ → List ℕ
mode_text Ecb Encrypt key iv m = join_blocks (λ n. cipher key (block_at m n)) (length m / 16)
mode_text Ecb Decrypt key iv m = join_blocks (λ n. inv_cipher key (block_at m n)) (length m / 16)
mode_text Cbc Encrypt key iv m = join_blocks (cbc_block key iv m) (length m / 16)
mode_text Cbc Decrypt key iv m =
    join_blocks (λ n. xor_bytes (inv_cipher key (block_at m n)) (block_before iv m n)) (length m / 16)
mode_text Ctr way key iv m = ctr_from key iv 0 m
