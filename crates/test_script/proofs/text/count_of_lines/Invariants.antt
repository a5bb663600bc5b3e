use Rattle.std.proofs.Common.{◌≡◌, ◌==◌, ◌≤◌, count_by, take}
use Rattle.test_script.proofs.text.count_of_lines.Given as goal

-- the line feeds so far
abbrev pub invariant-loop-byte : goal.invariant-loop-byte
invariant-loop-byte l = record {
  count : l.ended ≡ count_by (λ c. c == 10) (take l.byte-index l.text);
  small : l.ended ≤ l.byte-index;
}
