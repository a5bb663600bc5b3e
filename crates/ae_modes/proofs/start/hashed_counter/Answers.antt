use Rattle.std.proofs.Common.{[], ◌++◌, List, ℕ, subst, replicate}
use Rattle.ae_modes.specs.Absorbs.{Absorbs}
use Rattle.ae_modes.specs.Gcm.{bit_length}
use Rattle.ae_modes.specs.Ghash.{whole_blocks}
use Rattle.ae_modes.proofs.start.hashed_counter.Goals as goal

pub returns : goal.returns
returns c = λ h is.
    let all : Absorbs c.absorb-2.new.self h (whole_blocks c.args.nonce.now ++ (replicate 8 0 ++ bit_length c.args.nonce.now)) =
    subst (λ (z : List ℕ). Absorbs c.absorb-2.new.self h (whole_blocks c.args.nonce.now ++ z)) c.two_lengths.ensures
    (c.absorb-2.ensures h (whole_blocks c.args.nonce.now) (c.fill.ensures h c.args.nonce.now (c.absorb.ensures h [] is))) in
    all.sum_is
