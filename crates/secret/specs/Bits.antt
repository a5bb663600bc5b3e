-- Sizes of secrets.
use Rattle.std.specs.Prelude.{ℕ, ◌*◌, List, length}

-- how many bits a secret has
abbrev pub bits_of : List ℕ → ℕ
bits_of secret = 8 * length secret
