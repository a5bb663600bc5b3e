use Rattle.std.proofs.Common.{length, ◌≡◌, take}
use Rattle.aes_core.specs.KeyExpansion.{first_words}
use Rattle.aes_core.proofs.schedule.first_words.Given as goal

abbrev pub invariant-loop-i : goal.invariant-loop-i
invariant-loop-i l = (length l.words ≡ 60) × (take l.i l.words ≡ first_words l.key l.i)
