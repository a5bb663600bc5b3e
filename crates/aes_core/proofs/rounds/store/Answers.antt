use Rattle.std.proofs.Common.{◌∙◌, ◌<◌, ◌^◌, get_or, length, replicate, refl, ap, rules}
use Rattle.aes_core.specs.Words.{block_bytes}
use Rattle.aes_core.proofs.WideLemmas.{store_is, halves_written}
use Rattle.aes_core.proofs.rounds.store.Goals as goal

pub returns : goal.returns
unfolding block_bytes
returns c =
    let b : get_or c.args.words 1 0 < 2 ^ 32 = search rules in
    let d : get_or c.args.words 3 0 < 2 ^ 32 = search rules in
    let high = c.copy_from_slice.ensures.after ∙ c.to_be_bytes-high.ensures in
    let low = c.copy_from_slice-2.ensures.after ∙ c.to_be_bytes-low.ensures in
    halves_written (replicate 16 0) c.copy_from_slice.new.self c.copy_from_slice-2.new.self refl (ap length high) (ap length low)
    ∙ store_is _ _ _ _ _ _ _ _ b d c.pair.ensures c.pair-2.ensures high low
