use Rattle.std.proofs.Common.{◌≤◌, ◌*◌, ◌^◌}
use Rattle.test_tables.proofs.clock.system_time_passes_its_range.Given as goal

abbrev pub invariant-loop-n : goal.invariant-loop-n
invariant-loop-n g l = l.clock.ticks ≤ l.n * 2 ^ 32
