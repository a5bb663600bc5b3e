use Rattle.std.proofs.Common.{◌∙◌, arith, below_more}
use Rattle.boards.proofs.Blocks.{piece}
use Rattle.boards.proofs.row.Row.split.Goals as goal

pub loop-at-preserved : goal.loop-at-preserved
loop-at-preserved c =
    let s = c.set.ensures in
    let before = c.loop-at.invariant in (
      s.row,
      s.count ∙ before.1,
      below_more _ _ (λ k h. s.elsewhere k (λ e. absurd (omega (arith, e, h))) ∙ before.2 k h) (s.here ∙ piece c.args.image.now _ c.loop-at.at c.copy_from_slice.ensures.after),
    )
