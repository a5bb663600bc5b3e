-- HMAC (RFC 2104, FIPS 198-1) as a function of the whole message.
use Rattle.std.specs.Prelude.{ℕ, ◌-◌, List, ◌++◌, length, map, replicate, bit_xor, nat_lt, if◌then◌else◌}
use Rattle.mac_digest.specs.declared.digests.Hash.{Hash}
use Rattle.mac_digest.specs.Hash.{digest_of, block_len}

-- bytes filled with zeros up to a length
abbrev pub zero_filled : ℕ → List ℕ → List ℕ
zero_filled len bytes = bytes ++ replicate (len - length bytes) 0

-- the key, or its digest where it is longer than a block (FIPS 198-1 section 4, steps 1 and 2)
abbrev pub short_key : Hash → List ℕ → List ℕ
short_key hash key = if nat_lt (block_len hash) (length key) then digest_of hash key else key

-- the key as a block (FIPS 198-1 section 4, steps 1 to 3)
unfoldable pub block_key : Hash → List ℕ → List ℕ
block_key hash key = zero_filled (block_len hash) (short_key hash key)

-- each byte xored with the same byte
abbrev pub xor_each : ℕ → List ℕ → List ℕ
xor_each pad bytes = map (λ byte. bit_xor byte pad) bytes

-- the key's block under ipad (FIPS 198-1 section 4, step 4)
abbrev pub inner_block : Hash → List ℕ → List ℕ
inner_block hash key = xor_each 0x36 (block_key hash key)

-- the key's block under opad (FIPS 198-1 section 4, step 7)
abbrev pub outer_block : Hash → List ℕ → List ℕ
outer_block hash key = xor_each 0x5c (block_key hash key)

-- the authentication code of a message (RFC 2104 section 2)
unfoldable pub hmac_of : Hash → List ℕ → List ℕ → List ℕ
hmac_of hash key m = digest_of hash (outer_block hash key ++ digest_of hash (inner_block hash key ++ m))
