use Rattle.std.proofs.Common.{◌≡◌, ◌≤◌, count_by, take}
use Rattle.op_queue.specs.Queue.{is_close}
use Rattle.op_queue.proofs.scans.count_closes.Given as goal

abbrev pub invariant-loop-operation : goal.invariant-loop-operation
invariant-loop-operation l = record {
  count : l.count ≡ count_by (λ o. is_close o.progress) (take l.operation-index l.operations);
  small : l.count ≤ l.operation-index;
}
