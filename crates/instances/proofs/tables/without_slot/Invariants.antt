use Rattle.std.proofs.Common.{◌≡◌, ◌≤◌, ◌==◌, not, filter, take}
use Rattle.arrayvec.specs.ArrayVec.{array_vec_len}
use Rattle.instances.proofs.tables.without_slot.Given as goal

abbrev pub invariant-loop-slot : goal.invariant-loop-slot
invariant-loop-slot l = record {
  items : l.after.items ≡ filter (λ slot. not (slot.number == l.instance)) (take l.slot-index l.slots);
  len : array_vec_len l.after ≤ l.slot-index;
}
