use Rattle.std.proofs.Common.{◌≡◌, ◌-◌, List, ℕ}
use Rattle.aes_core.specs.Cipher.{cipher_rounds}
use Rattle.aes_core.specs.Shared.{with_last, IsSharedStart}
use Rattle.aes_core.specs.Words.{block_bytes}
use Rattle.aes_core.proofs.shared.encrypt_shared.Given as goal

abbrev pub invariant-loop-round : goal.invariant-loop-round
invariant-loop-round l =
    (b : List ℕ) → IsSharedStart l.key b l.start → block_bytes l.state ≡ cipher_rounds l.key.words (with_last b l.last) (l.round - 1)
