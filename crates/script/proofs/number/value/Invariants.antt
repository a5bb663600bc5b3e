use Rattle.std.proofs.Common.{◌≡◌, ◌<◌, ◌^◌, drop}
use Rattle.script.specs.Numbers.{digits_on}
use Rattle.script.proofs.number.value.Given as goal

abbrev pub invariant-loop-digit : goal.invariant-loop-digit
invariant-loop-digit l = record {
  value : digits_on l.value (drop l.digit-index l.digits) ≡ digits_on 0 l.digits;
  small : l.value < 2 ^ 64;
}
