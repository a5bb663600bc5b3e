use Rattle.std.proofs.Common.{◌≡◌, ℕ, ◌*◌, ◌/◌, ◌^◌}
use Rattle.ae_modes.specs.Field.{sum_of_powers}
use Rattle.ae_modes.specs.Tables.{IsTablesOf}
use Rattle.ae_modes.proofs.tables.Tables.product.Given as goal

-- the sum of the low bits so far, and the bits above them
abbrev pub invariant-loop-k : goal.invariant-loop-k
invariant-loop-k l = record {
  rest_is : l.rest ≡ l.block / 2 ^ (16 * l._k);
  sum_is : (h : ℕ) → IsTablesOf l.self h → l.sum ≡ sum_of_powers (16 * l._k) l.block h;
}
