use Rattle.std.proofs.Common.{◌≡◌, map, take}
use Rattle.arrayvec.specs.ArrayVec.{array_vec_len}
use Rattle.instances.specs.Instances.{with_state}
use Rattle.instances.proofs.tables.with_state.Given as goal

abbrev pub invariant-loop-session : goal.invariant-loop-session
invariant-loop-session l = record {
  items : l.after.items ≡ map (with_state l.number l.state) (take l.session-index l.sessions);
  len : array_vec_len l.after ≡ l.session-index;
}
