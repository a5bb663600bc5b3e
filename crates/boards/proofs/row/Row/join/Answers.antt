use Rattle.std.proofs.Common.{◌≡◌, ◌++◌, ℕ, List, length-append, ap, ◌∙◌, arith}
use Rattle.boards.specs.Row.{block_of}
use Rattle.boards.proofs.Blocks.{join_more}
use Rattle.boards.proofs.row.Row.join.Goals as goal

pub loop-at-preserved : goal.loop-at-preserved
loop-at-preserved c =
    let r = c.args.self.now in
    let at = c.loop-at.at in
    let bytes = c.loop-at.bytes.items in
    let whole = c.requires.whole at in
    let items : c.extend_from_slice.new.self.items ≡ bytes ++ block_of r at = c.in_ok-extend_from_slice.ensures.items ∙ ap (λ (l : List ℕ). bytes ++ l) c.get.ensures in
    rw items (
      omega (arith, length-append bytes (block_of r at), c.loop-at.invariant.0, whole),
      join_more bytes (block_of r) at c.loop-at.invariant.0 whole c.loop-at.invariant.1,
    )
