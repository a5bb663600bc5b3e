use Rattle.std.proofs.Common.{◌≡◌, map, take}
use Rattle.arrayvec.specs.ArrayVec.{array_vec_len}
use Rattle.instances.proofs.tables.free_session.Given as goal

abbrev pub invariant-loop-session : goal.invariant-loop-session
invariant-loop-session l = record {
  items : l.taken.items ≡ map (λ s. s.number) (take l.session-index l.sessions);
  len : array_vec_len l.taken ≡ l.session-index;
}
