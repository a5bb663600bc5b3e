use Rattle.std.proofs.Common.{◌≡◌, ◌≤◌, map, filter, take}
use Rattle.arrayvec.specs.ArrayVec.{array_vec_len}
use Rattle.instances.specs.Instances.{dead_if_of, stays_after_end}
use Rattle.instances.proofs.tables.after_end.Given as goal

abbrev pub invariant-loop-session : goal.invariant-loop-session
invariant-loop-session l = record {
  items : l.after.items ≡ map (dead_if_of l.instance) (filter (stays_after_end l.instance) (take l.session-index l.sessions));
  len : array_vec_len l.after ≤ l.session-index;
}
