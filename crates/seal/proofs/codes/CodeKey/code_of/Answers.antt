use Rattle.std.proofs.Common.{◌∙◌, append_assoc, refl}
use Rattle.sha2.specs.Hashers.{Holds256}
use Rattle.mac_digest.specs.Hmac.{hmac_of, inner_block, outer_block}
use Rattle.mac_digest.specs.declared.digests.Hash.TheVariants.{Sha256}
use Rattle.seal.specs.Keys.{IsCodeKeyOf}
use Rattle.seal.proofs.codes.CodeKey.code_of.Goals as goal

pub returns : goal.returns
unfolding hmac_of IsCodeKeyOf
returns c key ready =
    let inner : Holds256 c.copied-inner.result (inner_block Sha256 key) = rw c.copied-inner.ensures ready.0 in
    let outer : Holds256 c.copied-outer.result (outer_block Sha256 key) = rw c.copied-outer.ensures ready.1 in
    let taken = c.update-2.ensures _ (c.update.ensures _ inner) in
    c.finalize.ensures _ (c.update-3.ensures _ outer)
    ∙ rw (c.as_slice.ensures, c.finalize-digest.ensures _ taken, append_assoc) refl
