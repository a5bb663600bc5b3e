-- Numbers in decimal digits, as they are computed.
use Rattle.std.specs.Prelude.{ℕ, Bool, ◌+◌, ◌-◌, ◌*◌, ◌^◌, ◌&&◌, nat_lt, nat_le, List, [], ◌∷◌, Option, None, Some, if◌then◌else◌}

-- a decimal digit
abbrev pub is_digit : ℕ → Bool
is_digit c = nat_le 48 c && nat_le c 57

-- the value of digits behind others of this value
abbrev pub digits_on : ℕ → List ℕ → Option ℕ
digits_on n [] = Some n
digits_on n (c ∷ cs) = if is_digit c then digits_on (n * 10 + (c - 48)) cs else None

-- a number that fits 64 bits
abbrev pub if_it_fits : Option ℕ → Option ℕ
if_it_fits None = None
if_it_fits (Some n) = if nat_lt n (2 ^ 64) then Some n else None

-- the value of one or more digits, where it fits 64 bits
unfoldable pub number_of : List ℕ → Option ℕ
number_of [] = None
number_of (c ∷ cs) = if_it_fits (digits_on 0 (c ∷ cs))

-- a number within these bounds
abbrev pub within : ℕ → ℕ → Option ℕ → Option ℕ
within low high None = None
within low high (Some n) = if nat_le low n && nat_le n high then Some n else None

-- a number of 32 bits
abbrev pub number32_of : List ℕ → Option ℕ
number32_of digits = within 0 (2 ^ 32 - 1) (number_of digits)
