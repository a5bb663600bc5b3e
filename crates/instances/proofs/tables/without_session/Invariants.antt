use Rattle.std.proofs.Common.{◌≡◌, ◌≤◌, ◌==◌, not, filter, take}
use Rattle.arrayvec.specs.ArrayVec.{array_vec_len}
use Rattle.instances.proofs.tables.without_session.Given as goal

abbrev pub invariant-loop-session : goal.invariant-loop-session
invariant-loop-session l = record {
  items : l.after.items ≡ filter (λ s. not (s.number == l.number)) (take l.session-index l.sessions);
  len : array_vec_len l.after ≤ l.session-index;
}
