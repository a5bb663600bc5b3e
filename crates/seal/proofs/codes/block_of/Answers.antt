use Rattle.std.proofs.Common.{◌≡◌, ◌++◌, ℕ, List, length, rules, refl}
use Rattle.std.specs.Prelude.{replicate}
use Rattle.mac_digest.specs.Hmac.{block_key}
use Rattle.mac_digest.specs.declared.digests.Hash.TheVariants.{Sha256}
use Rattle.seal.proofs.codes.block_of.Goals as goal

-- a key of half a block stands as it is, with zeros behind it
padded : (key : List ℕ) → length key ≡ 32 → key ++ replicate 32 0 ≡ block_key Sha256 key
unfolding block_key
padded key long = rw (long, long) refl

pub returns : goal.returns
returns c =
    let long : length c.args.key.now ≡ 32 = search rules in
    rw c.copy_from_slice.ensures.after (padded c.args.key.now long)
