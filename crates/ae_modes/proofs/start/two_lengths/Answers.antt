use Rattle.std.proofs.Common.{◌∙◌, replicate, refl, ap, length}
use Rattle.aes_core.proofs.WideLemmas.{halves_written, two_lists}
use Rattle.ae_modes.proofs.start.two_lengths.Goals as goal

pub returns : goal.returns
returns c =
    let front = c.copy_from_slice.ensures.after ∙ c.to_be_bytes-front.ensures in
    let back = c.copy_from_slice-2.ensures.after ∙ c.to_be_bytes-back.ensures in
    halves_written (replicate 16 0) c.copy_from_slice.new.self c.copy_from_slice-2.new.self refl (ap length front) (ap length back)
    ∙ two_lists _ _ _ _ front back
