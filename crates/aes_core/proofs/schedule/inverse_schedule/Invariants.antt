use Rattle.std.proofs.Common.{length, ◌≡◌, ℕ, ◌<◌, slice_index}
use Rattle.aes_core.specs.KeyExpansion.{inv_mixed_word}
use Rattle.aes_core.specs.Words.{word_bytes}
use Rattle.aes_core.proofs.schedule.inverse_schedule.Given as goal

abbrev pub invariant-loop-i : goal.invariant-loop-i
invariant-loop-i l = (length l.inverse ≡ 60) × ((k : ℕ) → k < l.i → word_bytes (slice_index l.inverse k) ≡ inv_mixed_word (slice_index l.words k))
