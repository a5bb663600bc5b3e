use Rattle.std.proofs.Common.{length, ◌≡◌, ◌-◌, take}
use Rattle.aes_core.specs.KeyExpansion.{key_words}
use Rattle.aes_core.proofs.schedule.schedule.Given as goal

abbrev pub invariant-loop-i : goal.invariant-loop-i
invariant-loop-i l = (length l.words ≡ 60) × (take l.i l.words ≡ key_words l.nk l.key (l.i - l.nk))
