use Rattle.std.proofs.Common.{◌≡◌, ℕ, ◌+◌, ◌-◌, ◌*◌, ◌%◌, ◌^◌, take, drop, min}
use Rattle.aes_core.specs.Key.{key_bytes}
use Rattle.aes_core.specs.Shared.{IsSharedStart}
use Rattle.aes_modes.specs.Modes.{number_of, counter_block, ctr_from}
use Rattle.aes_modes.proofs.stream.Stream.write_bytes.Given as goal

abbrev pub invariant-loop-i : goal.invariant-loop-i
invariant-loop-i l =
    (l.at ≡ min (16 * l.i - l.count) l.length)
    × (l.counter ≡ (l.self.counter + l.i) % 2 ^ 128)
    × ((j : ℕ) → l.self.counter ≡ (number_of l.self.iv + j) % 2 ^ 128
    → take l.at l.output ≡ ctr_from (key_bytes l.self.key) l.self.iv (16 * j + l.self.count) (take l.at l.input))
    × (drop l.at l.output ≡ drop l.at l.initial.output)
    × IsSharedStart l.self.key (counter_block l.counter) l.start
