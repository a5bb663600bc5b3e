use Rattle.std.proofs.Common.{◌≡◌}
use Rattle.app_side.specs.Represents.{is_lost}
use Rattle.test_app_side.proofs.tables.are_turns_told.Given as goal

-- the application knows whether its store is lost
abbrev pub invariant-loop-turn : goal.invariant-loop-turn
invariant-loop-turn g l = is_lost l.side ≡ (g.S.AppStore.keeper.status l.store).lost
