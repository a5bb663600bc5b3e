use Rattle.std.proofs.Common.{◌≡◌, ◌+◌, ◌-◌, length}
use Rattle.tee_base.specs.Numbers.{first_free, lowest_free}
use Rattle.tee_base.proofs.numbers.find_lowest_free.Given as goal

abbrev pub invariant-loop : goal.invariant-loop
invariant-loop l = record {
  number : l.number ≡ 1 + l.counter;
  rest : lowest_free l.taken ≡ first_free (length l.taken - l.counter) l.number l.taken;
}
