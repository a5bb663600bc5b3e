-- What a running GHASH stands for: a hash subkey, and the bytes so far.
use Rattle.std.specs.Prelude.{◌≡◌, ℕ, ◌*◌, ◌/◌, List, length, drop}
use Rattle.ae_modes.specs.Ghash.{ghash}
use Rattle.ae_modes.specs.Tables.{IsTablesOf}
use Rattle.ae_modes.specs.Waiting.{waiting_bytes}
use Rattle.ae_modes.specs.declared.ghash.Ghash.{Ghash}

-- it has taken the bytes x under the hash subkey h
pub record Absorbs (g : Ghash) (h : ℕ) (x : List ℕ) : Type 0 where
  pub tables_are : IsTablesOf g.tables h
  pub sum_is : g.sum ≡ ghash h x
  pub waiting_are : waiting_bytes g.waiting ≡ drop (16 * (length x / 16)) x
