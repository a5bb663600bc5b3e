-- Keys are those of a board's key in one way at most.
use Rattle.std.specs.Prelude.{◌==◌, if◌then◌else◌, ℕ, List, refl}
use Rattle.std.specs.Coded.{Coded, coded_ℕ, code_by}
use Rattle.std.proofs.Props.{props}
use Rattle.sha2.specs.Sha256.{Holds as HasTaken256}
use Rattle.sha2.specs.Sha512.{Holds as HasTaken512}
use Rattle.mac_digest.specs.Digester.{HasTaken}
use Rattle.mac_digest.specs.declared.digests.Hash.{Hash}
use Rattle.mac_digest.specs.declared.digests.Hash.TheVariants as hash_by
use Rattle.mac_digest.specs.declared.digests.Hasher.{Hasher}
use Rattle.mac_digest.specs.declared.digests.Hasher.TheVariants.{Sha256, Sha384, Sha512}
use Rattle.seal.specs.Keys.{AreKeysOf, IsCodeKeyOf}
use Rattle.seal.specs.declared.codes.CodeKey.{CodeKey}
use Rattle.seal.specs.declared.keys.Keys.{Keys}
use Rattle.tee_base.specs.Words.{Key}

-- hash functions by number
number : Hash → ℕ
number hash_by.Sha256 = 0
number hash_by.Sha384 = 1
number hash_by.Sha512 = 2

numbered : ℕ → Hash
numbered n = if n == 0 then hash_by.Sha256 else if n == 1 then hash_by.Sha384 else hash_by.Sha512

coded_hash : Coded Hash
unfolding number numbered
coded_hash = code_by ℕ coded_ℕ number numbered (elim [ hash_by.Sha256 ↦ refl | hash_by.Sha384 ↦ refl | hash_by.Sha512 ↦ refl ])

taken_prop : (hasher : Hasher) (message : List ℕ) → IsProp (HasTaken hasher message)
unfolding HasTaken256 HasTaken512
taken_prop (Sha256 h) message = Prim.hlevel props
taken_prop (Sha384 h) message = Prim.hlevel props
taken_prop (Sha512 h) message = Prim.hlevel props

code_prop : (ready : CodeKey) (key : Key) → IsProp (IsCodeKeyOf ready key)
unfolding IsCodeKeyOf HasTaken256
code_prop ready key = Prim.hlevel props

pub AreKeysOf-prop : (keys : Keys) (key : Key) → IsProp (AreKeysOf keys key)
AreKeysOf-prop keys key = Prim.hlevel (props, code_prop, taken_prop, coded_hash)
