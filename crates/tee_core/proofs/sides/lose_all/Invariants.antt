use Rattle.tee_core.proofs.Losing.{LostTo}
use Rattle.tee_core.proofs.sides.lose_all.Given as goal

-- those before this one lost their storage, and the others are as before
abbrev pub invariant-loop-index : goal.invariant-loop-index
invariant-loop-index g l = record {
  lost : LostTo l.index l.fn.sides.items l.sides.items;
}
