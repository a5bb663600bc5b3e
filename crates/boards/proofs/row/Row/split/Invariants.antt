use Rattle.std.proofs.Common.{◌≡◌, ◌<◌, ℕ}
use Rattle.boards.specs.Image.{block_at}
use Rattle.boards.specs.Row.{IsRow, block_of}
use Rattle.boards.proofs.row.Row.split.Given as goal

abbrev pub invariant-loop-at : goal.invariant-loop-at
invariant-loop-at l =
    IsRow l.row × (l.row.written.count ≡ l.count) × ((k : ℕ) → k < l.at → block_of l.row k ≡ block_at l.image k)
