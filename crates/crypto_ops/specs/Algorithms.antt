-- The algorithms of operations: their numbers, modes, kinds of keys and usages (TEE Internal Core API 1.3, section 6.10.1).
use Rattle.std.specs.Prelude.{ℕ, ◌==◌, ◌&&◌, Bool, true, false, List, [], Option, None, Some, if◌then◌else◌}
use Rattle.tee_base.specs.KeySizes.{aes, hmac_sha256, hmac_sha384, hmac_sha512, size_fits}
use Rattle.aes_modes.specs.declared.modes.Mode as modes
use Rattle.aes_modes.specs.declared.modes.Mode.TheVariants.{Ecb, Cbc, Ctr}
use Rattle.aes_modes.specs.declared.modes.Way.{Way}
use Rattle.aes_modes.specs.declared.modes.Way.TheVariants.{Encrypt, Decrypt}
use Rattle.ae_modes.specs.declared.answers.AeWay.{AeWay}
use Rattle.ae_modes.specs.declared.answers.AeWay.TheVariants as ae_ways
use Rattle.ae_modes.specs.Cmac.{cmac}
use Rattle.mac_digest.specs.Hash.{digest_len}
use Rattle.mac_digest.specs.Hmac.{hmac_of}
use Rattle.mac_digest.specs.declared.digests.Hash.{Hash}
use Rattle.mac_digest.specs.declared.digests.Hash.TheVariants.{Sha256, Sha384, Sha512}
use Rattle.crypto_ops.specs.declared.algorithm.Algorithm.{Algorithm}
use Rattle.crypto_ops.specs.declared.algorithm.Algorithm.TheVariants.{Cipher, Gcm, Mac, Cmac, Digest}

-- the number of an algorithm
abbrev pub algorithm_number : Algorithm → ℕ
algorithm_number (Cipher Ecb way) = 0x10000010
algorithm_number (Cipher Cbc way) = 0x10000110
algorithm_number (Cipher Ctr way) = 0x10000210
algorithm_number (Gcm way) = 0x40000810
algorithm_number (Mac Sha256) = 0x30000004
algorithm_number (Mac Sha384) = 0x30000005
algorithm_number (Mac Sha512) = 0x30000006
algorithm_number Cmac = 0x30000610
algorithm_number (Digest Sha256) = 0x50000004
algorithm_number (Digest Sha384) = 0x50000005
algorithm_number (Digest Sha512) = 0x50000006

-- the number of its mode
abbrev pub mode_number : Algorithm → ℕ
mode_number (Cipher mode Encrypt) = 0
mode_number (Cipher mode Decrypt) = 1
mode_number (Gcm Encrypt) = 0
mode_number (Gcm Decrypt) = 1
mode_number (Mac hash) = 4
mode_number Cmac = 4
mode_number (Digest hash) = 5

-- the cipher whose mode has this number
abbrev pub cipher_at : modes.Mode → ℕ → Option Algorithm
cipher_at mode number =
    if number == 0 then Some (Cipher mode Encrypt) else if number == 1 then Some (Cipher mode Decrypt) else None

-- the authenticated encryption whose mode has this number
abbrev pub gcm_at : ℕ → Option Algorithm
gcm_at number = if number == 0 then Some (Gcm Encrypt) else if number == 1 then Some (Gcm Decrypt) else None

-- the authentication code whose mode has this number
abbrev pub mac_at : Hash → ℕ → Option Algorithm
mac_at hash number = if number == 4 then Some (Mac hash) else None

-- the code by a block cipher, whose mode has this number
abbrev pub cmac_at : ℕ → Option Algorithm
cmac_at number = if number == 4 then Some Cmac else None

-- the digest whose mode has this number
abbrev pub digest_at : Hash → ℕ → Option Algorithm
digest_at hash number = if number == 5 then Some (Digest hash) else None

-- the algorithm and mode of these numbers, where there are such
unfoldable pub algorithm_at : ℕ → ℕ → Option Algorithm
algorithm_at number mode =
    if number == 0x10000010 then cipher_at Ecb mode
    else if number == 0x10000110 then cipher_at Cbc mode
    else if number == 0x10000210 then cipher_at Ctr mode
    else if number == 0x40000810 then gcm_at mode
    else if number == 0x30000004 then mac_at Sha256 mode
    else if number == 0x30000005 then mac_at Sha384 mode
    else if number == 0x30000006 then mac_at Sha512 mode
    else if number == 0x30000610 then cmac_at mode
    else if number == 0x50000004 then digest_at Sha256 mode
    else if number == 0x50000005 then digest_at Sha384 mode
    else if number == 0x50000006 then digest_at Sha512 mode
    else None

-- the kind of its keys; a digest has none
abbrev pub key_kind : Algorithm → Option ℕ
key_kind (Cipher mode way) = Some aes
key_kind (Gcm way) = Some aes
key_kind (Mac Sha256) = Some hmac_sha256
key_kind (Mac Sha384) = Some hmac_sha384
key_kind (Mac Sha512) = Some hmac_sha512
key_kind Cmac = Some aes
key_kind (Digest hash) = None

-- the greatest size in bits fits the kind of key, if there is one
abbrev pub greatest_fits : Option ℕ → ℕ → Bool
greatest_fits None bits = true
greatest_fits (Some kind) bits = size_fits kind bits

-- a key of that kind and size in bits serves where keys are of this kind
abbrev pub key_fits : Option ℕ → ℕ → ℕ → Bool
key_fits None kind bits = false
key_fits (Some own) kind bits = (kind == own) && size_fits own bits

-- the usage that a key must have: ENCRYPT, DECRYPT or MAC
abbrev pub usage_bit : Algorithm → ℕ
usage_bit (Cipher mode Encrypt) = 2
usage_bit (Cipher mode Decrypt) = 4
usage_bit (Gcm Encrypt) = 2
usage_bit (Gcm Decrypt) = 4
usage_bit (Mac hash) = 8
usage_bit Cmac = 8
usage_bit (Digest hash) = 0

-- it is a cipher
abbrev pub is_cipher : Algorithm → Bool
is_cipher (Cipher mode way) = true
is_cipher (Gcm way) = false
is_cipher (Mac hash) = false
is_cipher Cmac = false
is_cipher (Digest hash) = false

-- it is authenticated encryption
abbrev pub is_ae : Algorithm → Bool
is_ae (Cipher mode way) = false
is_ae (Gcm way) = true
is_ae (Mac hash) = false
is_ae Cmac = false
is_ae (Digest hash) = false

-- it is an authentication code
abbrev pub is_mac : Algorithm → Bool
is_mac (Cipher mode way) = false
is_mac (Gcm way) = false
is_mac (Mac hash) = true
is_mac Cmac = true
is_mac (Digest hash) = false

-- it is a digest
abbrev pub is_digest : Algorithm → Bool
is_digest (Cipher mode way) = false
is_digest (Gcm way) = false
is_digest (Mac hash) = false
is_digest Cmac = false
is_digest (Digest hash) = true

-- the mode of a cipher
abbrev pub mode_of : Algorithm → modes.Mode
mode_of (Cipher mode way) = mode
mode_of (Gcm way) = Ecb
mode_of (Mac hash) = Ecb
mode_of Cmac = Ecb
mode_of (Digest hash) = Ecb

-- the way of a cipher or of authenticated encryption
abbrev pub way_of : Algorithm → Way
way_of (Cipher mode way) = way
way_of (Gcm way) = way
way_of (Mac hash) = Encrypt
way_of Cmac = Encrypt
way_of (Digest hash) = Encrypt

-- the hash function of an authentication code or a digest
abbrev pub hash_of : Algorithm → Hash
hash_of (Cipher mode way) = Sha256
hash_of (Gcm way) = Sha256
hash_of (Mac hash) = hash
hash_of Cmac = Sha256
hash_of (Digest hash) = hash

-- the same way of authenticated encryption
abbrev pub ae_way : Way → AeWay
ae_way Encrypt = ae_ways.Encrypt
ae_way Decrypt = ae_ways.Decrypt

-- how many bytes an authentication code has
abbrev pub code_len : Algorithm → ℕ
code_len (Cipher mode way) = 0
code_len (Gcm way) = 0
code_len (Mac hash) = digest_len hash
code_len Cmac = 16
code_len (Digest hash) = 0

-- the authentication code of a message under a key
abbrev pub code_of : Algorithm → List ℕ → List ℕ → List ℕ
code_of (Cipher mode way) key message = []
code_of (Gcm way) key message = []
code_of (Mac hash) key message = hmac_of hash key message
code_of Cmac key message = cmac key message
code_of (Digest hash) key message = []
