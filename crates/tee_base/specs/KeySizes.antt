-- Kinds of keys, and the sizes in bits that fit them (TEE Internal Core API 1.3, sections 5.6.1 and 6.10.2).
use Rattle.std.specs.Prelude.{ℕ, ◌%◌, ◌==◌, nat_le, Bool, false, ◌&&◌, ◌||◌, if◌then◌else◌}

-- the kind of AES keys
abbrev pub aes : ℕ
aes = 0xA0000010

-- the kind of HMAC SHA-256 keys
abbrev pub hmac_sha256 : ℕ
hmac_sha256 = 0xA0000004

-- the kind of HMAC SHA-384 keys
abbrev pub hmac_sha384 : ℕ
hmac_sha384 = 0xA0000005

-- the kind of HMAC SHA-512 keys
abbrev pub hmac_sha512 : ℕ
hmac_sha512 = 0xA0000006

-- the kinds of objects that have a secret; a data object has none
abbrev pub is_key_kind : ℕ → Bool
is_key_kind kind = (kind == aes) || (kind == hmac_sha256) || (kind == hmac_sha384) || (kind == hmac_sha512)

-- a multiple of 8 in this range, its ends included
abbrev pub are_bytes_in : ℕ → ℕ → ℕ → Bool
are_bytes_in least most bits = nat_le least bits && nat_le bits most && ((bits % 8) == 0)

-- the size fits the kind; none fits what is no kind of key
unfoldable pub size_fits : ℕ → ℕ → Bool
size_fits kind bits =
    if kind == aes then (bits == 128) || (bits == 192) || (bits == 256)
    else if kind == hmac_sha256 then are_bytes_in 192 1024 bits
    else if (kind == hmac_sha384) || (kind == hmac_sha512) then are_bytes_in 256 1024 bits
    else false
