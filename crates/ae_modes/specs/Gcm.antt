-- GCM over a whole message (SP 800-38D, sections 6.2, 6.5, 7.1 and 7.2).
use Rattle.std.specs.Prelude.{ℕ, suc, ◌+◌, ◌*◌, ◌/◌, ◌%◌, ◌^◌, ◌==◌, List, [], ◌∷◌, ◌++◌, length, take, replicate, bit_xor, slice_index, if◌then◌else◌}
use Rattle.std.specs.Int.{w64, w128, to_be_bytes}
use Rattle.aes_core.specs.Cipher.{cipher}
use Rattle.aes_modes.specs.Modes.{xor_bytes, number_of, counter_block}
use Rattle.ae_modes.specs.Ghash.{ghash, whole_blocks}

-- the hash subkey H: the block of zeros, enciphered
unfoldable pub hash_subkey : List ℕ → ℕ
hash_subkey key = number_of (cipher key (replicate 16 0))

-- how many bits a list of bytes has, as eight bytes, highest first
abbrev pub bit_length : List ℕ → List ℕ
bit_length x = to_be_bytes w64 (8 * length x)

-- J0, the counter before the first: of a nonce of 12 bytes the nonce and a one, of another one its GHASH
unfoldable pub first_counter : List ℕ → List ℕ → ℕ
first_counter key nonce =
    if length nonce == 12 then number_of (nonce ++ 0 ∷ 0 ∷ 0 ∷ 1 ∷ [])
    else ghash (hash_subkey key) (whole_blocks nonce ++ (replicate 8 0 ++ bit_length nonce))

-- a counter raised n times: its last 32 bits alone, which wrap
unfoldable pub counter_after : ℕ → ℕ → ℕ
counter_after counter n = counter / 2 ^ 32 * 2 ^ 32 + (counter + n) % 2 ^ 32

-- the bytes of a message from place i on, each with its byte of the enciphered counters behind J0
unfoldable pub text_from : List ℕ → ℕ → ℕ → List ℕ → List ℕ
text_from key counter i [] = []
text_from key counter i (x ∷ xs) =
    bit_xor x (slice_index (cipher key (counter_block (counter_after counter (1 + i / 16)))) (i % 16))
    ∷ text_from key counter (suc i) xs

-- the ciphertext of a message, and the message of a ciphertext
abbrev pub gcm_text : List ℕ → List ℕ → List ℕ → List ℕ
gcm_text key nonce m = text_from key (first_counter key nonce) 0 m

-- what GHASH takes: the associated data and the ciphertext, each filled, and both lengths in bits
abbrev pub hash_input : List ℕ → List ℕ → List ℕ
hash_input aad c = whole_blocks aad ++ (whole_blocks c ++ (bit_length aad ++ bit_length c))

-- the tag before it is cut: the first counter, enciphered, and GHASH
unfoldable pub whole_tag : List ℕ → List ℕ → List ℕ → List ℕ → List ℕ
whole_tag key nonce aad c =
    xor_bytes (cipher key (counter_block (first_counter key nonce)))
    (to_be_bytes w128 (ghash (hash_subkey key) (hash_input aad c)))

-- the tag of a ciphertext and its associated data
abbrev pub gcm_tag : List ℕ → List ℕ → ℕ → List ℕ → List ℕ → List ℕ
gcm_tag key nonce tag_bits aad c = take (tag_bits / 8) (whole_tag key nonce aad c)
