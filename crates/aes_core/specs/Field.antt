-- Bytes as the elements of the finite field with 256 elements (FIPS 197, section 4), and the substitution of a byte.
use Rattle.std.specs.Prelude.{ℕ, zero, suc, ◌+◌, ◌*◌, ◌/◌, ◌%◌, ◌^◌, ◌==◌, bit_xor, sum_by, if◌then◌else◌}
use Rattle.std.specs.Int.{bit_at}
use Rattle.std.specs.List.{range_with_len}

-- the product by x: each power goes up by one, and x^8 is x^4 + x^3 + x + 1 (4.2)
unfoldable pub xtimes : ℕ → ℕ
xtimes b = bit_xor (b * 2 % 256) (b / 128 % 2 * 0x1b)

-- the sum of x^i times b over the first n powers that a has (4.2)
unfoldable pub multiply_powers : ℕ → ℕ → ℕ → ℕ
multiply_powers zero a b = 0
multiply_powers (suc n) a b = bit_xor (if a % 2 == 1 then b else 0) (multiply_powers n (a / 2) (xtimes b))

-- the product of two bytes (4.2)
unfoldable pub multiply : ℕ → ℕ → ℕ
multiply a b = multiply_powers 8 a b

-- the power of a byte
unfoldable pub power : ℕ → ℕ → ℕ
power b zero = 1
power b (suc n) = multiply b (power b n)

-- the inverse of a byte, where 0 is its own (4.4)
unfoldable pub inverse : ℕ → ℕ
inverse b = power b 254

-- the byte with these eight bits, lowest first
unfoldable pub byte_of_bits : (ℕ → ℕ) → ℕ
byte_of_bits bit = sum_by (λ i. bit i * 2 ^ i) (range_with_len 0 8)

-- the affine map of the substitution (5.1.1)
unfoldable pub affine : ℕ → ℕ
affine b = byte_of_bits (λ i.
    (bit_at b i + bit_at b ((i + 4) % 8) + bit_at b ((i + 5) % 8) + bit_at b ((i + 6) % 8)
    + bit_at b ((i + 7) % 8) + bit_at 0x63 i) % 2)

-- the inverse of the affine map (5.3.2)
unfoldable pub inverse_affine : ℕ → ℕ
inverse_affine b = byte_of_bits (λ i.
    (bit_at b ((i + 2) % 8) + bit_at b ((i + 5) % 8) + bit_at b ((i + 7) % 8) + bit_at 0x05 i) % 2)

-- what SubBytes takes a byte to (5.1.1)
unfoldable pub substitute : ℕ → ℕ
substitute b = affine (inverse b)

-- what InvSubBytes takes a byte to (5.3.2)
unfoldable pub inverse_substitute : ℕ → ℕ
inverse_substitute b = inverse (inverse_affine b)
