-- The hash functions of FIPS 180-4: their digests, and how long a digest and a block are.
use Rattle.std.specs.Prelude.{ℕ, List}
use Rattle.sha2.specs.Sha256.{sha256}
use Rattle.sha2.specs.Sha512.{sha384, sha512}
use Rattle.mac_digest.specs.declared.digests.Hash.{Hash}
use Rattle.mac_digest.specs.declared.digests.Hash.TheVariants.{Sha256, Sha384, Sha512}

-- the digest of a message (FIPS 180-4 sections 6.2, 6.5 and 6.4)
abbrev pub digest_of : Hash → List ℕ → List ℕ
digest_of Sha256 m = sha256 m
digest_of Sha384 m = sha384 m
digest_of Sha512 m = sha512 m

-- the bytes of a digest (FIPS 180-4 figure 1)
abbrev pub digest_len : Hash → ℕ
digest_len Sha256 = 32
digest_len Sha384 = 48
digest_len Sha512 = 64

-- the bytes of a block (FIPS 180-4 figure 1)
abbrev pub block_len : Hash → ℕ
block_len Sha256 = 64
block_len Sha384 = 128
block_len Sha512 = 128
