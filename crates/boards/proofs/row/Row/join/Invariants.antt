use Rattle.std.proofs.Common.{◌≡◌, ◌*◌, ◌<◌, ℕ, length}
use Rattle.boards.specs.Image.{block_at}
use Rattle.boards.specs.Row.{block_of}
use Rattle.boards.proofs.row.Row.join.Given as goal

abbrev pub invariant-loop-at : goal.invariant-loop-at
invariant-loop-at l =
    (length l.bytes.items ≡ 1024 * l.at) × ((k : ℕ) → k < l.at → block_at l.bytes.items k ≡ block_of l.self k)
