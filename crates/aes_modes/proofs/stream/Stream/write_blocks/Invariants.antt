use Rattle.std.proofs.Common.{◌≡◌, ◌*◌, ◌++◌, take, drop}
use Rattle.aes_core.specs.Key.{key_bytes}
use Rattle.aes_modes.specs.Stream.{vector_after, blocks_text}
use Rattle.aes_modes.proofs.stream.Stream.write_blocks.Given as goal

abbrev pub invariant-loop-i : goal.invariant-loop-i
invariant-loop-i l =
    (take (16 * l.i) l.output
    ≡ blocks_text l.self.mode l.self.way (key_bytes l.self.key) l.initial.vector (take l.self.count l.self.held ++ l.input) l.i)
    × (drop (16 * l.i) l.output ≡ drop (16 * l.i) l.initial.output)
    × (l.vector ≡ vector_after l.self.mode l.self.way (key_bytes l.self.key) l.initial.vector (take l.self.count l.self.held ++ l.input) l.i)
