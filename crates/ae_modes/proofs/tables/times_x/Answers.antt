use Rattle.std.proofs.Common.{ℕ, ◌*◌, ◌/◌, ◌^◌, ap, bit_xor}
use Rattle.std.proofs.lemmas.Nat.{and_mask}
use Rattle.ae_modes.specs.Field.{times_x}
use Rattle.ae_modes.proofs.tables.times_x.Goals as goal

pub returns : goal.returns
unfolding times_x
returns c = ap (λ (z : ℕ). bit_xor (c.args.v / 2) (z * (0xe1 * 2 ^ 120))) (and_mask c.args.v 1)
