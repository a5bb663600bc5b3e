use Rattle.std.proofs.Common.{rules}
use Rattle.std.proofs.Common.{◌≡◌, ◌++◌, ◌∙◌, List, ℕ, refl}
use Rattle.mac_digest.specs.declared.digests.Hash.{Hash}
use Rattle.mac_digest.specs.Hash.{digest_of}
use Rattle.mac_digest.specs.Hmac.{inner_block, outer_block, hmac_of}
use Rattle.mac_digest.specs.Digester.{HoldsMessage}
use Rattle.mac_digest.specs.Mac.{HoldsKeyedMessage}
use Rattle.mac_digest.proofs.macs.Mac.finish.Goals as goal

-- before the last digest the outer digester holds the key's block and the inner digest
outer_holds : (c : goal.After-finish) (hash : Hash) (key message : List ℕ) →
    HoldsKeyedMessage c.args.self.now hash key message →
    HoldsMessage c.update.new.self hash (outer_block hash key ++ c.as_slice.result.now)
outer_holds c hash key message held =
    let started : HoldsMessage c.copied-outer.result hash (outer_block hash key) = rw c.copied-outer.ensures held.outer_start in
    c.update.ensures hash (outer_block hash key) started

pub returns-clause-code : goal.returns-clause-code
unfolding hmac_of
returns-clause-code c hash key message held =
    let inner : c.finish-inner_digest.result ≡ digest_of hash (inner_block hash key ++ message)
    = c.finish-inner_digest.ensures.digest hash (inner_block hash key ++ message) held.inner in
    c.finish.ensures.digest hash (outer_block hash key ++ c.as_slice.result.now) (outer_holds c hash key message held)
    ∙ rw (c.as_slice.ensures, inner) refl

pub returns-clause-length : goal.returns-clause-length
returns-clause-length c hash key message held =
    c.finish.ensures.length hash (outer_block hash key ++ c.as_slice.result.now) (outer_holds c hash key message held)

pub returns-clause-started : goal.returns-clause-started
returns-clause-started c = search rules
