use Rattle.std.proofs.Common.{◌≡◌, true, false, eqb, length, arith}
use Rattle.std.proofs.lemmas.Bool.Decides.{nat_tests}
use Rattle.ae_modes.specs.Gcm.{hash_subkey, first_counter}
use Rattle.ae_modes.proofs.start.first_counter.Goals as goal

pub returns-then-nonce-eq12 : goal.returns-then-nonce-eq12
unfolding first_counter
returns-then-nonce-eq12 c = λ key is.
    let short : eqb (length c.args.nonce.now) 12 ≡ true = grind (arith, nat_tests) in rw short c.short_counter.ensures

pub returns-else-nonce-eq12 : goal.returns-else-nonce-eq12
unfolding first_counter
returns-else-nonce-eq12 c = λ key is.
    let other : eqb (length c.args.nonce.now) 12 ≡ false = grind (arith, nat_tests) in rw other (c.hashed_counter.ensures (hash_subkey key) is)
