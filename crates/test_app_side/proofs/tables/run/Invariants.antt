use Rattle.std.proofs.Common.{◌≡◌}
use Rattle.app_side.specs.Represents.{is_lost}
use Rattle.test_app_side.proofs.tables.run.Given as goal

-- the application knows whether its store is lost
abbrev pub invariant-loop-place : goal.invariant-loop-place
invariant-loop-place g l = is_lost l.side ≡ (g.S.AppStore.keeper.status l.store).lost
