use Rattle.std.proofs.Common.{◌≡◌, map, take}
use Rattle.arrayvec.specs.ArrayVec.{array_vec_len}
use Rattle.instances.specs.Instances.{with_ending}
use Rattle.instances.proofs.tables.with_ending.Given as goal

abbrev pub invariant-loop-slot : goal.invariant-loop-slot
invariant-loop-slot l = record {
  items : l.after.items ≡ map (with_ending l.instance) (take l.slot-index l.slots);
  len : array_vec_len l.after ≡ l.slot-index;
}
