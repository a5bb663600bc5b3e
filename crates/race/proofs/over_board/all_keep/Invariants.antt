use Rattle.std.proofs.Common.{◌≡◌, ◌<◌, ◌≤◌, ℕ, Some}
use Rattle.std.specs.Prelude.{slice_get}
use Rattle.tee_base.specs.declared.limits.TheConstants.{MAX_LOG_BYTES}
use Rattle.alone.specs.Logs.{KeptLog, bytes_in}
use Rattle.race.proofs.over_board.all_keep.Given as goal

-- so it is with the first logs
abbrev pub invariant-loop-log : goal.invariant-loop-log
invariant-loop-log l = (app : ℕ) (log : KeptLog) → app < l.log-index → slice_get l.logs app ≡ Some log → bytes_in log.entries ≤ MAX_LOG_BYTES
