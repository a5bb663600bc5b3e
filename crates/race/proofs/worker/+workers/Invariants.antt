use Prim.Native.Nat.{◌+◌, ◌*◌}
use Rattle.std.proofs.Common.{vec_len}
use Rattle.race.proofs.worker.+workers.Given as goal

abbrev pub decreases-run_all : goal.decreases-run_all
decreases-run_all g l = 2 * vec_len l.workers

abbrev pub decreases-join+arg3 : goal.decreases-join+arg3
decreases-join+arg3 g l = 2 * vec_len l.others + 1
