use Rattle.std.proofs.Common.{sym, ◌∙◌, arith}
use Rattle.tee_core.specs.Sides.{IsNoneInDoubt}
use Rattle.tee_core.proofs.Doubts.{doubts_none, doubts_some, if_none_known, place_below}
use Rattle.tee_core.proofs.sides.owner_of_doubt.Goals as goal

pub returns-in_err-place-clause-none : goal.returns-in_err-place-clause-none
returns-in_err-place-clause-none g c = if_none_known c.from_residual.result (IsNoneInDoubt c.args.sides.now) (doubts_none c.args.sides.now (sym c.in_err-place.was ∙ c.place_of_doubt.ensures))

pub returns-clause-some : goal.returns-clause-some
returns-clause-some g c = doubts_some c.args.sides.now c.in_ok-place.place c.in_ok-place.ensures

pub overflow_cast-result : goal.overflow_cast-result
overflow_cast-result g c = let below = place_below c.args.sides.now c.in_ok-place.place c.in_ok-place.ensures in omega (arith, below, c.requires)
