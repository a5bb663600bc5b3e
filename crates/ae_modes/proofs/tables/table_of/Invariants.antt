use Rattle.std.proofs.Common.{◌≡◌, ℕ, ◌<◌, get_or, length}
use Rattle.ae_modes.specs.Field.{sum_of_powers}
use Rattle.ae_modes.proofs.tables.table_of.Given as goal

-- the entries so far
abbrev pub invariant-loop-i : goal.invariant-loop-i
invariant-loop-i l = record {
  long : length l.table ≡ 16;
  entries : (k : ℕ) → k < l.i → get_or l.table k 0 ≡ sum_of_powers 4 k l.v;
}
