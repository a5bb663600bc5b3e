-- CMAC over a whole message (SP 800-38B, sections 6.1 and 6.2).
use Rattle.std.specs.Prelude.{ℕ, ◌-◌, ◌*◌, ◌/◌, ◌%◌, ◌^◌, ◌==◌, List, ◌∷◌, ◌++◌, length, take, drop, replicate, bit_xor, if◌then◌else◌}
use Rattle.std.specs.Int.{w128, to_be_bytes}
use Rattle.aes_core.specs.Cipher.{cipher}
use Rattle.aes_modes.specs.Modes.{xor_bytes, number_of, cbc_block}

-- a block as a number, shifted left by one bit, and 0x87 where a one was shifted out
unfoldable pub double_of : ℕ → ℕ
double_of v = bit_xor (v * 2 % 2 ^ 128) (v / 2 ^ 127 * 0x87)

-- K1, of the block of zeros, enciphered
unfoldable pub first_subkey : List ℕ → ℕ
first_subkey key = double_of (number_of (cipher key (replicate 16 0)))

-- K2
abbrev pub second_subkey : List ℕ → ℕ
second_subkey key = double_of (first_subkey key)

-- how many blocks stand before the last one
abbrev pub blocks_before : List ℕ → ℕ
blocks_before m = (length m - 1) / 16

-- what is enciphered last: a whole block with K1, or a block that a one bit and zeros fill, with K2
unfoldable pub last_block : List ℕ → List ℕ → List ℕ
last_block key b =
    if length b == 16 then xor_bytes b (to_be_bytes w128 (first_subkey key))
    else xor_bytes (b ++ 0x80 ∷ replicate (15 - length b) 0) (to_be_bytes w128 (second_subkey key))

-- the message with that block as its last
abbrev pub with_last_block : List ℕ → List ℕ → List ℕ
with_last_block key m = take (16 * blocks_before m) m ++ last_block key (drop (16 * blocks_before m) m)

-- the code: the last block of its CBC encryption from the vector of zeros
unfoldable pub cmac : List ℕ → List ℕ → List ℕ
cmac key m = cbc_block key (replicate 16 0) (with_last_block key m) (blocks_before m)
