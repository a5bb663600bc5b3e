use Rattle.std.proofs.Common.{◌≡◌, map, take}
use Rattle.arrayvec.specs.ArrayVec.{array_vec_len}
use Rattle.instances.proofs.tables.free_instance.Given as goal

abbrev pub invariant-loop-slot : goal.invariant-loop-slot
invariant-loop-slot l = record {
  items : l.taken.items ≡ map (λ slot. slot.number) (take l.slot-index l.slots);
  len : array_vec_len l.taken ≡ l.slot-index;
}
