-- The fields of a word that encodes an instruction (RISC-V Instruction Set Manual, volume I: Unprivileged ISA, sections 2.2 and 2.3).
use Rattle.std.specs.Prelude.{ℕ, ◌+◌, ◌-◌, ◌*◌, ◌/◌, ◌%◌, ◌^◌, nat_lt, if◌then◌else◌}

-- the bits from this one on, so many of them
abbrev pub bits : ℕ → ℕ → ℕ → ℕ
bits w from count = w / 2 ^ from % 2 ^ count

-- a value of so many bits, extended by its sign to 32 bits (section 2.3: the sign bit is bit 31 of the word)
abbrev pub sign_extension : ℕ → ℕ → ℕ
sign_extension count value = if nat_lt value (2 ^ (count - 1)) then value else value + (2 ^ 32 - 2 ^ count)

-- opcode, bits 6 to 0
abbrev pub opcode : ℕ → ℕ
opcode w = bits w 0 7

-- rd, bits 11 to 7
abbrev pub target : ℕ → ℕ
target w = bits w 7 5

-- funct3, bits 14 to 12
abbrev pub funct3 : ℕ → ℕ
funct3 w = bits w 12 3

-- rs1, bits 19 to 15
abbrev pub first_source : ℕ → ℕ
first_source w = bits w 15 5

-- rs2, bits 24 to 20
abbrev pub second_source : ℕ → ℕ
second_source w = bits w 20 5

-- funct7, bits 31 to 25
abbrev pub funct7 : ℕ → ℕ
funct7 w = bits w 25 7

-- the immediate of format I: bits 31 to 20
abbrev pub immediate : ℕ → ℕ
immediate w = sign_extension 12 (bits w 20 12)

-- the immediate of format S: bits 31 to 25, then 11 to 7
abbrev pub store_offset : ℕ → ℕ
store_offset w = sign_extension 12 (bits w 25 7 * 2 ^ 5 + bits w 7 5)

-- the immediate of format B: bit 31, bit 7, bits 30 to 25, bits 11 to 8, and a zero
abbrev pub branch_offset : ℕ → ℕ
branch_offset w = sign_extension 13 (bits w 31 1 * 2 ^ 12 + bits w 7 1 * 2 ^ 11 + bits w 25 6 * 2 ^ 5 + bits w 8 4 * 2)

-- the immediate of format U: bits 31 to 12, and twelve zeros
abbrev pub upper : ℕ → ℕ
upper w = bits w 12 20 * 2 ^ 12

-- the immediate of format J: bit 31, bits 19 to 12, bit 20, bits 30 to 21, and a zero
abbrev pub jump_offset : ℕ → ℕ
jump_offset w = sign_extension 21 (bits w 31 1 * 2 ^ 20 + bits w 12 8 * 2 ^ 12 + bits w 20 1 * 2 ^ 11 + bits w 21 10 * 2)
