-- What the tables of a hash subkey hold: its products with the sixteen numbers of four bits.
use Rattle.std.specs.Prelude.{◌≡◌, ℕ, zero, suc, ◌<◌, List, slice_index}
use Rattle.ae_modes.specs.Field.{times_x, sum_of_powers}
use Rattle.ae_modes.specs.declared.tables.Tables.{Tables}

-- the product by x^n
unfoldable pub times_power : ℕ → ℕ → ℕ
times_power zero v = v
times_power (suc n) v = times_power n (times_x v)

-- the sums of four powers that v has
pub record IsTable (t : List ℕ) (v : ℕ) : Type 0 where
  pub entry_is : (i : ℕ) → i < 16 → slice_index t i ≡ sum_of_powers 4 i v

-- the tables of h: each is four places further on
pub record IsTablesOf (t : Tables) (h : ℕ) : Type 0 where
  pub first : IsTable t.first h
  pub second : IsTable t.second (times_power 4 h)
  pub third : IsTable t.third (times_power 8 h)
  pub fourth : IsTable t.fourth (times_power 12 h)
