-- What a digester stands for: a hash function, and the message since its start.
use Rattle.std.specs.Prelude.{◌≡◌, ℕ, List}
use Rattle.sha2.specs.Hashers.{Holds256, Holds384, Holds512}
use Rattle.mac_digest.specs.declared.digests.Hash.{Hash}
use Rattle.mac_digest.specs.declared.digests.Hash.TheVariants as H
use Rattle.mac_digest.specs.declared.digests.Hasher.{Hasher}
use Rattle.mac_digest.specs.declared.digests.Hasher.TheVariants.{Sha256, Sha384, Sha512}
use Rattle.mac_digest.specs.declared.digests.Digester.{Digester}

-- the hash function of a hasher
abbrev pub hash_of : Hasher → Hash
hash_of (Sha256 h) = H.Sha256
hash_of (Sha384 h) = H.Sha384
hash_of (Sha512 h) = H.Sha512

-- the hasher has taken in this message
abbrev pub HasTaken : Hasher → List ℕ → Type 0
HasTaken (Sha256 h) m = Holds256 h m
HasTaken (Sha384 h) m = Holds384 h m
HasTaken (Sha512 h) m = Holds512 h m

-- the digester stands for this message, since its start, under this hash function
pub record HoldsMessage (digester : Digester) (hash : Hash) (message : List ℕ) : Type 0 where
  pub hash_is : hash_of digester.hasher ≡ hash
  pub taken : HasTaken digester.hasher message
