-- Where a volume keeps its two slots, and what an open gate is.
use Rattle.std.specs.Prelude.{ℕ, ◌+◌, ◌*◌, ◌==◌, ◌&&◌, if◌then◌else◌, Bool, List, length, replicate}
use Rattle.std.specs.List.{list_all}
use Rattle.board.specs.declared.TheConstants.{BLOCK}
use Rattle.epoch.specs.declared.gates.TheConstants.{OPEN}

-- the block of a slot's gate
abbrev pub gate_at : ℕ → ℕ
gate_at slot = 2 * slot

-- the block of its header
abbrev pub header_at : ℕ → ℕ
header_at slot = 2 * slot + 1

-- a whole block of open bytes
unfoldable pub gate_open : List ℕ → Bool
gate_open block = (length block == BLOCK) && list_all (λ byte. byte == OPEN) block

-- the block of a gate once it is shut: zeros where it was open, and else as it was
abbrev pub shut_gate : List ℕ → List ℕ
shut_gate block = if gate_open block then replicate BLOCK 0 else block
