use Rattle.std.proofs.Common.{◌/◌, ◌^◌, arith}
use Rattle.std.proofs.lemmas.Nat.{and_mask}
use Rattle.ae_modes.proofs.FieldLemmas.{bits_are}
use Rattle.ae_modes.proofs.tables.Tables.times_bits.Goals as goal

pub returns : goal.returns
returns c = λ h is.
    bits_are c.args.self.now h c.args.bits _ _ _ _ is (omega (arith, c.ranges.bits.fits)) (and_mask (c.args.bits / 2 ^ 8) 4)
    (and_mask (c.args.bits / 2 ^ 4) 4) (and_mask c.args.bits 4)
