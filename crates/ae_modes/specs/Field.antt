-- The field of GHASH (SP 800-38D, section 6.3). A block is a number of 128 bits, whose highest bit is the coefficient of x^0.
use Rattle.std.specs.Prelude.{ℕ, zero, suc, ◌*◌, ◌/◌, ◌%◌, ◌^◌, ◌==◌, bit_xor, if◌then◌else◌}

-- the product by x: each power goes up by one, and x^128 is x^7 + x^2 + x + 1
unfoldable pub times_x : ℕ → ℕ
times_x v = bit_xor (v / 2) (v % 2 * (0xe1 * 2 ^ 120))

-- the sum of x^i times v over the n powers that the low n bits of a have, from x^0 in the highest of them
unfoldable pub sum_of_powers : ℕ → ℕ → ℕ → ℕ
sum_of_powers zero a v = 0
sum_of_powers (suc n) a v = bit_xor (if a / 2 ^ n % 2 == 1 then v else 0) (sum_of_powers n a (times_x v))

-- the product of two blocks
unfoldable pub product : ℕ → ℕ → ℕ
product a b = sum_of_powers 128 a b
