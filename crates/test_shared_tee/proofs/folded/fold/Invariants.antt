-- The application knows whether its store is lost.
use Rattle.std.proofs.Common.{◌≡◌}
use Rattle.app_side.specs.Represents.{is_lost}
use Rattle.test_shared_tee.proofs.folded.fold.Given as goal

abbrev pub invariant-loop-entry : goal.invariant-loop-entry
invariant-loop-entry g l = is_lost l.side ≡ (g.S.AppStore.keeper.status l.store).lost
