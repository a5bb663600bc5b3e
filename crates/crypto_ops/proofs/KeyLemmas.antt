-- Sizes of secrets.
use Rattle.std.proofs.Common.{◌≡◌, ℕ, ◌*◌, true, arith}
use Rattle.std.proofs.lemmas.Bool.Decides.{nat_tests}
use Rattle.aes_core.specs.KeyExpansion.{is_key_length}
use Rattle.tee_base.specs.KeySizes.{size_fits, aes}

-- an AES key of a size that fits has a length that can be expanded
pub aes_length : (n : ℕ) → size_fits aes (8 * n) ≡ true → is_key_length n ≡ true
unfolding size_fits
aes_length n h = grind (arith, nat_tests)
