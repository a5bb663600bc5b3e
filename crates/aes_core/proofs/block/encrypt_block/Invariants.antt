use Rattle.std.proofs.Common.{◌≡◌, ◌-◌}
use Rattle.aes_core.specs.Cipher.{cipher_rounds}
use Rattle.aes_core.specs.Words.{block_bytes}
use Rattle.aes_core.proofs.block.encrypt_block.Given as goal

abbrev pub invariant-loop-round : goal.invariant-loop-round
invariant-loop-round l = block_bytes l.state ≡ cipher_rounds l.key.words l.block (l.round - 1)
